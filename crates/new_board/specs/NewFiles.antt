-- The cells and the wiring of new chips.
use Rattle.std.specs.Prelude.{ℕ, ◌+◌, ◌-◌, Bool, false, not, ◌||◌, ◌==◌, nat_lt, List, [], ◌∷◌, ◌++◌, map, filter, length, if◌then◌else◌, Option, Some, None, is_some, slice_get, option_and_then}
use Rattle.std.specs.List.{list_any, filter_map}
use Rattle.mig_base.specs.declared.cells.Source.TheVariants.{Pin, Reg}
use Rattle.mig_base.specs.declared.cells.Lit.{Lit}
use Rattle.mig_base.specs.declared.cells.Row.{Row}
use Rattle.mig_base.specs.declared.cells.Row.TheVariants as row
use Rattle.mig_base.specs.declared.cells.Enable.{Enable}
use Rattle.mig_base.specs.declared.cells.Enable.TheVariants as enable
use Rattle.mig_base.specs.declared.cells.Form.TheVariants as form
use Rattle.mig_base.specs.declared.cells.Cell.{Cell}
use Rattle.mig_base.specs.declared.cells.ChipCells.{ChipCells}
use Rattle.mig_base.specs.declared.nets.Net.{Net}
use Rattle.mig_base.specs.declared.nets.ChipLine.{ChipLine}
use Rattle.mig_base.specs.declared.nets.PinLine.{PinLine}
use Rattle.mig_base.specs.declared.circuit.Literal.{Literal}
use Rattle.mig_base.specs.declared.circuit.Gate.{Gate}
use Rattle.mig_base.specs.declared.circuit.Driver.{Driver}
use Rattle.mig_base.specs.declared.circuit.Gate.TheVariants.{Never, Product}
use Rattle.mig_base.specs.DeviceTables.{ordinary_pins, cell_pins, enable_pin, is_22}
use Rattle.mig_base.specs.Cells.{columns_of, idle}
use Rattle.mig_base.specs.Boards.{places_from, is_port}
use Rattle.mig_base.specs.Bools.{same_bool}
use Rattle.mig_base.specs.WellFormed.{same_lit}
use Rattle.new_board.specs.declared.types.PinNet.{PinNet}
use Rattle.new_board.specs.declared.types.FittedChip.{FittedChip}
use Rattle.new_board.specs.declared.types.PlacedUnit.{PlacedUnit}
use Rattle.new_board.specs.NewChip.{OldBoard, NewChip, unit_on, register_on, private_from, first_registered, is_registered_unit, placed_register, unit_products, control_products}
use Rattle.new_board.specs.InputPins.{pin_net, pin_reads, reading_pin}

-- the pins of the registered cells
abbrev pub registered_pins : OldBoard → NewChip → List ℕ
registered_pins b chip = map (λ x. x.pin) (filter (is_registered_unit b.circuit) chip.units)

-- the literals of the columns
abbrev pub new_columns : OldBoard → NewChip → List Lit
new_columns b chip = columns_of chip.kind chip.mode (registered_pins b chip)

-- a literal of what a pin reads, as one of the pin's columns
abbrev pub column_lit : OldBoard → NewChip → Literal → ℕ → Option Literal → Option Lit
column_lit b chip x pin None = None
column_lit b chip x pin (Some y) =
    Some (record { source = if is_some (register_on b.circuit chip pin) then Reg pin else Pin pin; high = same_bool x.high y.high })

-- a literal as one of the columns of a pin
abbrev pub lit_on : OldBoard → NewChip → Literal → ℕ → Option Lit
lit_on b chip x pin = column_lit b chip x pin (pin_reads b chip pin)

-- the literal of the new chip for a literal over variables
abbrev pub new_lit : OldBoard → NewChip → Literal → Option Lit
new_lit b chip x = option_and_then (lit_on b chip x) (reading_pin b chip x.source)

-- a product of the new chip: each literal once, by rising column
abbrev pub new_product : OldBoard → NewChip → List Literal → List Lit
new_product b chip lits =
    filter (λ y. list_any (same_lit y) (filter_map (new_lit b chip) lits)) (new_columns b chip)

-- the terms of a sum, on the new chip
abbrev pub new_terms : OldBoard → NewChip → List (List Literal) → List (List Lit)
new_terms b chip terms = map (new_product b chip) terms

-- an enable row
abbrev pub new_enable : OldBoard → NewChip → Gate → Enable
new_enable b chip Never = enable.Never
new_enable b chip (Product []) = enable.Always
new_enable b chip (Product (x ∷ xs)) = enable.Term (new_product b chip (x ∷ xs))

-- a reset or preset row
abbrev pub new_row : OldBoard → NewChip → Gate → Row
new_row b chip Never = row.Never
new_row b chip (Product lits) = row.Product (new_product b chip lits)

-- a combinational cell; Idle where it is never enabled
abbrev pub new_comb : OldBoard → NewChip → ℕ → PlacedUnit → Gate → Cell
new_comb b chip pin x Never = idle pin
new_comb b chip pin x (Product lits) =
    record { pin = pin; form = form.Comb; low = x.low; pin_low = false; enable = new_enable b chip (Product lits); terms = new_terms b chip x.terms }

-- whether the pin of a registered unit shows NOT Q
abbrev pub pin_low_of : Option Driver → Bool
pin_low_of None = false
pin_low_of (Some d) = d.low

-- a registered cell: on a 22V10 with its enable row, on a V8 enabled by the enable pin
abbrev pub new_reg : OldBoard → NewChip → ℕ → PlacedUnit → Cell
new_reg b chip pin x = record {
  pin = pin;
  form = form.Reg;
  low = x.low;
  pin_low = pin_low_of (slice_get b.circuit.units x.unit);
  enable = if is_22 chip.kind then new_enable b chip x.enable else enable.LowPin (enable_pin chip.kind);
  terms = new_terms b chip x.terms;
}

-- the cell of a unit, by its register if it has one
abbrev pub cell_by : OldBoard → NewChip → ℕ → PlacedUnit → Option ℕ → Cell
cell_by b chip pin x None = new_comb b chip pin x x.enable
cell_by b chip pin x (Some k) = new_reg b chip pin x

-- the cell of a unit that is there, or Idle
abbrev pub cell_of : OldBoard → NewChip → ℕ → Option PlacedUnit → Cell
cell_of b chip pin None = idle pin
cell_of b chip pin (Some x) = cell_by b chip pin x (placed_register b.circuit x)

-- the cell of a pin: that of its unit, or Idle
abbrev pub new_cell : OldBoard → NewChip → ℕ → Cell
new_cell b chip pin = cell_of b chip pin (unit_on chip.units pin)

-- the reset row of a unit that is there
abbrev pub reset_gate : Option PlacedUnit → Gate
reset_gate None = Never
reset_gate (Some x) = x.reset

-- the preset row of a unit that is there
abbrev pub preset_gate : Option PlacedUnit → Gate
preset_gate None = Never
preset_gate (Some x) = x.preset

-- reset and preset are those of the first registered unit
abbrev pub new_cells : OldBoard → NewChip → ChipCells
new_cells b chip = record {
  kind = chip.kind;
  mode = chip.mode;
  cells = map (new_cell b chip) (cell_pins chip.kind);
  reset = new_row b chip (reset_gate (first_registered b.circuit chip));
  preset = new_row b chip (preset_gate (first_registered b.circuit chip));
}

-- whether a product would have every fuse intact
abbrev pub is_full : OldBoard → NewChip → List Literal → Bool
is_full b chip lits = length (new_product b chip lits) == length (new_columns b chip)

-- whether a row of the unit, or the reset or preset row of its chip, would
abbrev pub has_full_row : OldBoard → NewChip → PlacedUnit → Bool
has_full_row b chip x = list_any (is_full b chip) (unit_products b.circuit chip x) || list_any (is_full b chip) (control_products b.circuit chip)

-- a pin on a constant or a named net has a line
abbrev pub wire_at : OldBoard → ℕ → Option ℕ → Option PinNet
wire_at b pin None = None
wire_at b pin (Some n) = if nat_lt n (private_from b.net) then Some (record { pin = pin; net = n }) else None

-- the lines of the pins of a new chip, rising
abbrev pub new_wires : OldBoard → NewChip → List PinNet
new_wires b chip = filter_map (λ pin. wire_at b pin (pin_net b chip pin)) (ordinary_pins chip.kind)

-- a new chip with its cells and the lines of its pins
abbrev pub fitted : OldBoard → NewChip → FittedChip
fitted b chip = record { name = chip.name; cells = new_cells b chip; wires = new_wires b chip }

-- the new wiring: all ports in old order, then the inner nets that stand on a new pin, in old order

-- whether a new chip has a pin on this net
abbrev pub stands_on : ℕ → FittedChip → Bool
stands_on n f = list_any (λ w. w.net == n) f.wires

-- the old numbers of the nets that are kept, in the order of the new wiring
abbrev pub kept_numbers : Net → List FittedChip → List ℕ
kept_numbers net chips =
    places_from is_port 2 net.nets ++ filter (λ n. list_any (stands_on n) chips) (places_from (λ l. not (is_port l)) 2 net.nets)

-- the place of a number in a list
abbrev pub number_in : List ℕ → ℕ → ℕ
number_in [] n = 0
number_in (m ∷ ms) n = if m == n then 0 else number_in ms n + 1

-- GND and VCC keep their numbers, the kept nets are numbered from 2 on
abbrev pub new_number : List ℕ → ℕ → ℕ
new_number kept n = if nat_lt n 2 then n else 2 + number_in kept n

-- the line of a new chip
abbrev pub new_chip_line : FittedChip → ChipLine
new_chip_line f = record { name = f.name; kind = f.cells.kind }

-- the pin lines of new chips, from this chip number on
abbrev pub new_pins_from : List ℕ → ℕ → List FittedChip → List PinLine
new_pins_from kept j [] = []
new_pins_from kept j (f ∷ fs) = map (λ w. record { chip = j; pin = w.pin; net = new_number kept w.net }) f.wires ++ new_pins_from kept (j + 1) fs

-- the new wiring
abbrev pub new_net : Net → List FittedChip → Net
new_net net chips = record {
  nets = filter_map (λ n. slice_get net.nets (n - 2)) (kept_numbers net chips);
  chips = map new_chip_line chips;
  pins = new_pins_from (kept_numbers net chips) 0 chips;
}
