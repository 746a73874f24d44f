-- The old nets, units and registers that those of a planned board stand for.
use Rattle.std.specs.Prelude.{◌≡◌, ℕ, Bool, true, false, not, List, [], ◌∷◌, ◌++◌, map, Option, Some, None, slice_get, option_and_then}
use Rattle.mig_base.specs.declared.nets.Net.{Net}
use Rattle.mig_base.specs.declared.circuit.Literal.{Literal}
use Rattle.mig_base.specs.declared.circuit.Read.TheVariants.{OfNet}
use Rattle.mig_base.specs.Among.{Among}
use Rattle.mig_base.specs.DeviceTables.{cell_pins}
use Rattle.mig_base.specs.Boards.{At, ChipUnit, at_of, is_unit, literals_of, privates, units_from, registers_of}
use Rattle.board.specs.Joined.{Joined, equations_of}
use Rattle.new_board.specs.declared.types.PlacedUnit.{PlacedUnit}
use Rattle.new_board.specs.NewChip.{NewChip, unit_on, unit_register}
use Rattle.new_board.specs.InputPins.{pin_net}
use Rattle.new_board.specs.NewFiles.{kept_numbers, new_cell, new_cells, new_product}
use Rattle.plans.specs.Placings.{old}
use Rattle.plans.specs.Forms.{is_absorbed_read}
use Rattle.plans.specs.Fitting.{fitted_chips, new_board}
use Rattle.carried_boards.specs.Carries.{Numbers}

-- the wiring of the new board
abbrev pub new_wiring : Joined → List NewChip → Net
new_wiring b chips = (new_board b chips).net

-- its units
abbrev pub new_units : Joined → List NewChip → List ChipUnit
new_units b chips = units_from 0 (new_board b chips).chips

-- the unit that is placed at a pin of the new chips
abbrev pub placed_at : List NewChip → At → Option PlacedUnit
placed_at chips q = option_and_then (λ chip. unit_on chip.units q.1) (slice_get chips q.0)

-- the old net that a pin of the new chips stands on
abbrev pub pin_net_at : Joined → List NewChip → At → Option ℕ
pin_net_at b chips q = option_and_then (λ chip. pin_net (old b) chip q.1) (slice_get chips q.0)

-- the old nets of the new ones, in order: GND, VCC, the kept nets, and for each private net the net that its pin stands on, if
-- it stands on one
abbrev pub old_nets : Joined → List NewChip → List (Option ℕ)
old_nets b chips =
    Some 0 ∷ Some 1 ∷ map (λ n. Some n) (kept_numbers b.net (fitted_chips b chips)) ++ map (pin_net_at b chips) (privates (new_wiring b chips))

-- the old net of a new one, if it stands for one
abbrev pub old_net : Joined → List NewChip → ℕ → Option ℕ
old_net b chips m = option_and_then (λ o. o) (slice_get (old_nets b chips) m)

abbrev pub or_zero : Option ℕ → ℕ
or_zero None = 0
or_zero (Some n) = n

-- the number of a placed unit
abbrev pub unit_of : Option PlacedUnit → ℕ
unit_of None = 0
unit_of (Some x) = x.unit

-- the old unit of a new one
abbrev pub old_unit : List NewChip → ChipUnit → ℕ
old_unit chips u = unit_of (placed_at chips (at_of u))

-- the old register of a new unit
abbrev pub old_register : Joined → List NewChip → ChipUnit → ℕ
old_register b chips u = or_zero (unit_register (equations_of b) (old_unit chips u))

-- the old numbers of the nets, units and registers of the new board
abbrev pub numbers_of : Joined → List NewChip → Numbers
numbers_of b chips = record {
  net = λ m. or_zero (old_net b chips m);
  unit = λ v. or_zero (slice_get (map (old_unit chips) (new_units b chips)) v);
  register = λ k. or_zero (slice_get (map (old_register b chips) (registers_of (new_units b chips))) k);
}

-- an old net that isn't absorbed
abbrev pub stays : Joined → List ℕ → Option ℕ → Bool
stays b absorbed None = false
stays b absorbed (Some n) = not (is_absorbed_read (equations_of b) absorbed (OfNet n))

-- whether a new net stands for an old one: not for one that an absorbed unit drives
abbrev pub is_seen : Joined → List ℕ → List NewChip → ℕ → Bool
is_seen b absorbed chips m = stays b absorbed (old_net b chips m)

-- a product over old variables as one of the new chip of this number, on the new board
abbrev pub new_literals : Joined → List NewChip → ℕ → NewChip → List Literal → List Literal
new_literals b chips j chip lits = literals_of (new_wiring b chips) (new_units b chips) j (new_product (old b) chip lits)

-- a new unit: on a cell pin of its chip, with the cell of the unit that is placed there
pub record IsNewUnit (b : Joined) (chips : List NewChip) (u : ChipUnit) : Type 0 where
  pub chip : NewChip
  pub found : slice_get chips u.chip ≡ Some chip
  pub pin : Among u.cell.pin (cell_pins chip.kind)
  pub cells : u.cells ≡ new_cells (old b) chip
  pub cell : u.cell ≡ new_cell (old b) chip u.cell.pin
  pub unit : PlacedUnit
  pub placed : unit_on chip.units u.cell.pin ≡ Some unit
  pub stands : is_unit u.cells u.cell ≡ true
