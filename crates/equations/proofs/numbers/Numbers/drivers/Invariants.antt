use Rattle.std.proofs.Common.{◌≡◌, ◌++◌, map, drop}
use Rattle.mig_base.specs.Boards.{driver_of}
use Rattle.equations.proofs.numbers.Numbers.drivers.Given as goal

abbrev pub invariant-loop-unit : goal.invariant-loop-unit
invariant-loop-unit l = l.drivers.items ++ map (driver_of l.self.nets.now l.self.units.now) (drop l.unit-index l.unit-items) ≡ map (driver_of l.self.nets.now l.self.units.now) l.unit-items
