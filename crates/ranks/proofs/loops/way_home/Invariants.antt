use Rattle.ranks.proofs.LoopLaws.{IsOnWay}
use Rattle.ranks.proofs.loops.way_home.Given as goal

abbrev pub invariant-loop-left : goal.invariant-loop-left
invariant-loop-left l = IsOnWay l.circuit l.ways l.fn.home l.fn.steps l.cycle.items l.last l.left
