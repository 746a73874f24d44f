use Rattle.std.proofs.Common.{◌≡◌, ◌++◌}
use Rattle.mig_base.specs.First.{made_from}
use Rattle.mig_base.specs.declared.circuit.Read.TheVariants.{OfNet}
use Rattle.structure.proofs.variables.push_nets.Given as goal

abbrev pub invariant-loop-net : goal.invariant-loop-net
invariant-loop-net l = l.variables.items ≡ l.fn.variables.items ++ made_from OfNet 0 l.net
