use Rattle.std.proofs.Common.{◌≡◌, ◌++◌, map, drop}
use Rattle.mig_base.specs.Boards.{register_of, registers_of}
use Rattle.equations.proofs.numbers.Numbers.registers.Given as goal

abbrev pub invariant-loop-unit : goal.invariant-loop-unit
invariant-loop-unit l = l.registers.items ++ map (register_of l.self.nets.now l.self.units.now) (registers_of (drop l.unit-index l.unit-items)) ≡ map (register_of l.self.nets.now l.self.units.now) (registers_of l.unit-items)
