use Rattle.std.proofs.Common.{◌≡◌, ◌++◌, map, drop}
use Rattle.mig_base.specs.Boards.{at_of, registers_of}
use Rattle.equations.proofs.units.register_pins.Given as goal

abbrev pub invariant-loop-unit : goal.invariant-loop-unit
invariant-loop-unit l = l.pins.items ++ map at_of (registers_of (drop l.unit-index l.units)) ≡ map at_of (registers_of l.units)
