-- The variables of a board: its nets, and its registers by the numbers of their units.
use Rattle.std.specs.Prelude.{ℕ, ◌≡◌, ◌<◌, true, List, length, map, take, slice_get}
use Rattle.mig_base.specs.declared.cells.ChipCells.{ChipCells}
use Rattle.mig_base.specs.declared.circuit.Circuit.{Circuit}
use Rattle.mig_base.specs.declared.circuit.Read.{Read}
use Rattle.mig_base.specs.declared.circuit.Read.TheVariants.{OfNet, OfRegister}
use Rattle.mig_base.specs.declared.nets.Var.{Var}
use Rattle.mig_base.specs.declared.nets.Var.TheVariants.{Net, Reg}
use Rattle.mig_base.specs.Boards.{registers_of, units_from}
use Rattle.structure.specs.Products.{var_by}
use Rattle.ranks.specs.declared.Ranks.{Ranks}
use Rattle.ranks.specs.RankEquations.{IsRanks, rank_in}
use Rattle.board.specs.Joined.{Joined, equations_of}
use Rattle.board.specs.UnitLists.{register_units, has_register}

-- the place of a unit's register: so many registered units stand before the unit
abbrev pub register_place : List ChipCells → ℕ → ℕ
register_place chips u = length (registers_of (take u (units_from 0 chips)))

-- the node of a variable
abbrev pub read_of : List ChipCells → Var → Read
read_of chips (Net n) = OfNet n
read_of chips (Reg u) = OfRegister (register_place chips u)

-- the variable of a node
abbrev pub var_of : List ChipCells → Read → Var
var_of chips v = var_by (register_units chips) v

-- a net of the board, or the register of a registered unit
abbrev pub IsVariable : Joined → Var → Type 0
IsVariable b (Net n) = n < length (equations_of b).nets
IsVariable b (Reg u) = has_register (slice_get (units_from 0 b.chips) u) ≡ true

-- the rank of a node
abbrev pub IsRankOf : Circuit → Read → ℕ → Type 0
IsRankOf c v n = (r : Ranks) × IsRanks c r × (n ≡ rank_in r v)

-- all variables by rank, and then in node order
abbrev pub AreByRank : Joined → List Var → Type 0
AreByRank b vars = (r : Ranks) × IsRanks (equations_of b) r × (vars ≡ map (var_of b.chips) r.order)
