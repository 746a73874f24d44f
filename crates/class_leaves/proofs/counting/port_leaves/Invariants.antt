use Rattle.class_leaves.proofs.PlaceLaws.{PortsSoFar}
use Rattle.class_leaves.proofs.counting.port_leaves.Given as goal

abbrev pub invariant-loop-port : goal.invariant-loop-port
invariant-loop-port l = PortsSoFar l.first l.ports l.port-index l.place l.leaves.items
