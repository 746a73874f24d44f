use Rattle.std.proofs.Common.{◌≡◌, ◌++◌, map, filter, drop}
use Rattle.board.specs.UnitLists.{has_named, named_pin}
use Rattle.board.proofs.unit_lists.register_pins.Given as goal

abbrev pub invariant-loop-unit : goal.invariant-loop-unit
invariant-loop-unit l = l.pins.items ++ map named_pin (filter has_named (drop l.unit-index l.units)) ≡ map named_pin (filter has_named l.units)
