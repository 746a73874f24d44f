use Rattle.std.proofs.Common.{◌≡◌, ◌++◌}
use Rattle.mig_base.specs.First.{made_from}
use Rattle.mig_base.specs.declared.circuit.Read.TheVariants.{OfRegister}
use Rattle.structure.proofs.variables.push_registers.Given as goal

abbrev pub invariant-loop-register : goal.invariant-loop-register
invariant-loop-register l = l.variables.items ≡ l.fn.variables.items ++ made_from OfRegister 0 l.register
