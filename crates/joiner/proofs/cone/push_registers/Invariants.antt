use Rattle.std.proofs.Common.{◌≡◌, ◌++◌, filter, map, take}
use Rattle.mig_base.specs.declared.nets.Var.TheVariants.{Reg}
use Rattle.joiner.specs.Marked.{is_named}
use Rattle.joiner.proofs.cone.push_registers.Given as goal

abbrev pub invariant-loop-unit : goal.invariant-loop-unit
invariant-loop-unit l = l.variables.items ≡ l.fn.variables.items ++ filter (is_named l.nets l.marks) (map Reg (take l.unit-index l.registers))
