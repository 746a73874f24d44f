-- The units of a board by name and number.
use Rattle.std.specs.Prelude.{ℕ, Bool, false, List, [], ◌∷◌, ◌++◌, map, filter, take, length, Option, Some, None, if◌then◌else◌}
use Rattle.std.specs.List.{zip}
use Rattle.mig_base.specs.declared.cells.ChipCells.{ChipCells}
use Rattle.mig_base.specs.declared.nets.Net.{Net}
use Rattle.mig_base.specs.declared.nets.PinName.{PinName}
use Rattle.mig_base.specs.Boards.{ChipUnit, at_of, is_registered, is_unit, net_of, places_from, units_from}
use Rattle.mig_base.specs.DeviceTables.{clock_pin}
use Rattle.board.specs.declared.Unit.{Unit as NamedUnit}
use Rattle.board.specs.NodeNames.{pin_name}

-- the places of those cells that are units, chip by chip
abbrev pub cell_places : List ChipCells → List ℕ
cell_places [] = []
cell_places (c ∷ cs) = places_from (is_unit c) 0 c.cells ++ cell_places cs

-- the clock net of a registered unit, and 0 of another one
abbrev pub clock_net : Net → ChipUnit → ℕ
clock_net net u = if is_registered u then net_of net (u.chip, clock_pin u.cells.kind) else 0

-- a unit whose cell has this place
abbrev pub unit_on : Net → ChipUnit × ℕ → NamedUnit
unit_on net p = record {
  name = pin_name net (at_of p.0);
  chip = p.0.chip;
  cell = p.1;
  registered = is_registered p.0;
  net = net_of net (at_of p.0);
  clock = clock_net net p.0;
}

-- the units, by chip and pin
abbrev pub units_on : Net → List ChipCells → List NamedUnit
units_on net chips = map (unit_on net) (zip (units_from 0 chips) (cell_places chips))

-- the numbers of the registered units
abbrev pub register_units : List ChipCells → List ℕ
register_units chips = places_from is_registered 0 (units_from 0 chips)

abbrev pub has_register : Option ChipUnit → Bool
has_register None = false
has_register (Some u) = is_registered u

-- the same of units by name
abbrev pub has_named : NamedUnit → Bool
has_named u = u.registered

abbrev pub named_pin : NamedUnit → PinName
named_pin u = u.name

-- so many registered units stand before this one
abbrev pub registers_before : List NamedUnit → ℕ → ℕ
registers_before units u = length (filter has_named (take u units))
