use Rattle.std.proofs.Common.{◌≡◌, ◌++◌}
use Rattle.mig_base.specs.declared.circuit.Read.TheVariants.{OfRegister}
use Rattle.mig_base.specs.First.{made_from}
use Rattle.ranks.proofs.graph.add_registers.Given as goal

abbrev pub invariant-loop-register : goal.invariant-loop-register
invariant-loop-register l = l.nodes.items ≡ l.fn.nodes.items ++ made_from OfRegister 0 l.register
