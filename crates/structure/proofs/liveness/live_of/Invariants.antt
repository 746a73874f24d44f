use Rattle.structure.specs.Waking.{IsWaking, falses}
use Rattle.structure.proofs.liveness.live_of.Given as goal

abbrev pub invariant-loop : goal.invariant-loop
invariant-loop l = IsWaking l.circuit l.waking

abbrev pub decreases-loop : goal.decreases-loop
decreases-loop l = falses l.waking.live
