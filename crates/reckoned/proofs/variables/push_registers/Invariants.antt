use Rattle.std.proofs.Common.{take}
use Rattle.reckoned.specs.Variables.{IsExtended}
use Rattle.reckoned.proofs.variables.push_registers.Given as goal

abbrev pub invariant-loop-unit : goal.invariant-loop-unit
invariant-loop-unit l = IsExtended l.b (take l.unit-index l.registers) l.fn.vars.items l.vars.items
