-- What a wiring and chips that make a board keep.
use Rattle.std.proofs.Common.{◌≡◌, ◌≤◌, List, [], ◌∷◌, ◌++◌, length, refl, ap, suc}
use Rattle.mig_base.specs.declared.cells.ChipCells.{ChipCells}
use Rattle.mig_base.specs.declared.nets.ChipLine.{ChipLine}
use Rattle.mig_base.specs.declared.nets.Net.{Net}
use Rattle.mig_base.specs.Given.{AreMade, IsGiven, IsMade}

pub made-long : (lines : List ChipLine) (chips : List ChipCells) → AreMade lines chips → length chips ≡ length lines
made-long [] [] made = refl
made-long [] (c ∷ cs) made = absurd made
made-long (line ∷ lines) [] made = absurd made
made-long (line ∷ lines) (c ∷ cs) made = ap suc (made-long lines cs made.1)

-- some fuses make one more chip
pub made-more : (lines : List ChipLine) (line : ChipLine) (chips : List ChipCells) (cells : ChipCells) → AreMade lines chips → IsMade line cells → AreMade (lines ++ line ∷ []) (chips ++ cells ∷ [])
made-more [] line [] cells made one = (one, tt)
made-more [] line (c ∷ cs) cells made one = absurd made
made-more (l ∷ ls) line [] cells made one = absurd made
made-more (l ∷ ls) line (c ∷ cs) cells made one = (made.0, made-more ls line cs cells made.1 one)

-- there are few nets and few chips, and each chip line has its cells
pub record IsSmall (net : Net) (chips : List ChipCells) : Type 0 where
  pub nets : length net.nets ≤ 1024
  pub lines : length net.chips ≤ 64
  pub cells : length chips ≡ length net.chips

pub given-small : (net : Net) (chips : List ChipCells) → IsGiven net chips → IsSmall net chips
given-small net chips given = record { nets = given.wiring.few_nets; lines = given.wiring.few_chips; cells = made-long net.chips chips given.cells }
