use Rattle.std.proofs.Common.{drop}
use Rattle.settle.proofs.OrderLaws.{Progress}
use Rattle.settle.proofs.evaluating.settle_circuit.Given as goal

abbrev pub invariant-loop-node : goal.invariant-loop-node
invariant-loop-node l = Progress l.circuit l.stored l.inputs (drop l.node-index l.order) l.out
