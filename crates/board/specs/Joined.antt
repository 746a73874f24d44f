-- A board: its wiring and the cells of its chips.
use Rattle.std.specs.Prelude.{ℕ, ◌≡◌, List}
use Rattle.mig_base.specs.declared.cells.ChipCells.{ChipCells}
use Rattle.mig_base.specs.declared.circuit.Circuit.{Circuit}
use Rattle.mig_base.specs.declared.nets.Net.{Net}
use Rattle.mig_base.specs.Boards.{circuit}
use Rattle.ranks.specs.declared.Ranks.{Ranks}
use Rattle.ranks.specs.RankEquations.{IsRanks}

pub record Joined : Type 0 where
  pub net : Net
  pub chips : List ChipCells

-- the board as equations
abbrev pub equations_of : Joined → Circuit
equations_of b = circuit b.net b.chips

-- the greatest rank of a board's nodes
abbrev pub HasRank : Circuit → ℕ → Type 0
HasRank c n = (r : Ranks) × IsRanks c r × (n ≡ r.top)
