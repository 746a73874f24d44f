use Rattle.std.proofs.Common.{drop}
use Rattle.settle.proofs.FollowLaws.{Following}
use Rattle.settle.proofs.marked.settle_marked.Given as goal

abbrev pub invariant-loop-node : goal.invariant-loop-node
invariant-loop-node l = Following l.circuit l.stored l.inputs (drop l.node-index l.order) l.marks l.out
