-- The board that files hold under a stem.
use Rattle.std.specs.Prelude.{ℕ, ◌≡◌, ◌≤◌, Bool, List, [], ◌∷◌, length, Some, None, Ok, codes}
use Rattle.mig_base.specs.declared.cells.ChipCells.{ChipCells}
use Rattle.mig_base.specs.declared.nets.Net.{Net}
use Rattle.mig_base.specs.declared.nets.ChipLine.{ChipLine}
use Rattle.mig_base.specs.Limits.{most_file_bytes}
use Rattle.mig_base.specs.Names.{file_name_of}
use Rattle.mig_base.specs.FuseText.{fuses_of_text}
use Rattle.mig_base.specs.Cells.{cells_of}
use Rattle.mig_base.specs.BoardText.{net_of_text}
use Rattle.mig_base.specs.Boards.{circuit}
use Rattle.mig_base.specs.Accepted.{IsAccepted}
use Rattle.mig_io.specs.Holding.{Held}

abbrev pub net_file : List ℕ → List ℕ
net_file stem = file_name_of stem None (codes "net")

abbrev pub plan_file : List ℕ → List ℕ
plan_file stem = file_name_of stem None (codes "plan")

abbrev pub sim_file : List ℕ → List ℕ
sim_file stem = file_name_of stem None (codes "sim")

abbrev pub jed_file : List ℕ → List ℕ → List ℕ
jed_file stem chip = file_name_of stem (Some chip) (codes "jed")

-- the name holds these bytes, which are not too many
pub record HoldsFile (held : Held) (name bytes : List ℕ) : Type 0 where
  pub content : held name ≡ Some bytes
  pub short : length bytes ≤ most_file_bytes

-- the fuse file of a chip makes these cells
pub record HoldsChip (held : Held) (stem : List ℕ) (line : ChipLine) (cells : ChipCells) : Type 0 where
  pub bytes : List ℕ
  pub bits : List Bool
  pub file : HoldsFile held (jed_file stem line.name) bytes
  pub fuses : fuses_of_text bytes ≡ Ok bits
  pub made : cells_of line.kind bits ≡ Ok cells

-- the fuse file of each chip
abbrev pub HoldsChips : Held → List ℕ → List ChipLine → List ChipCells → Type 0
HoldsChips held stem [] [] = Unit {0}
HoldsChips held stem [] (cells ∷ chips) = ⊥
HoldsChips held stem (line ∷ lines) [] = ⊥
HoldsChips held stem (line ∷ lines) (cells ∷ chips) = HoldsChip held stem line cells × HoldsChips held stem lines chips

-- the files under the stem form this board, and it is accepted
pub record HoldsBoard (held : Held) (stem : List ℕ) (net : Net) (chips : List ChipCells) : Type 0 where
  pub bytes : List ℕ
  pub file : HoldsFile held (net_file stem) bytes
  pub wiring : net_of_text bytes ≡ Ok net
  pub fuses : HoldsChips held stem net.chips chips
  pub accepted : IsAccepted (circuit net chips)
