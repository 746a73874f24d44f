use Rattle.std.proofs.Common.{take}
use Rattle.ranks.specs.Ways.{IsReached}
use Rattle.ranks.proofs.distances.reach_all.Given as goal

abbrev pub invariant-loop-node : goal.invariant-loop-node
invariant-loop-node l = IsReached (take l.node-index l.nodes) l.steps l.fn.ways l.fn.next.items l.ways l.next.items
