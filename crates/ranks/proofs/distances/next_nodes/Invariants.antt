use Rattle.std.proofs.Common.{[], take}
use Rattle.std.specs.List.{flat_map}
use Rattle.ranks.specs.Neighbours.{neighbours_at}
use Rattle.ranks.specs.Ways.{IsReached}
use Rattle.ranks.proofs.distances.next_nodes.Given as goal

abbrev pub invariant-loop-node : goal.invariant-loop-node
invariant-loop-node l = IsReached (flat_map (neighbours_at l.graph.readers) (take l.node-index l.nodes)) l.steps l.fn.ways [] l.ways l.next.items
