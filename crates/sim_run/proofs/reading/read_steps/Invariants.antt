use Rattle.std.proofs.Common.{length}
use Rattle.sim_run.proofs.StepsRead.{IsRead}
use Rattle.sim_run.proofs.reading.read_steps.Given as goal

abbrev pub invariant-loop-line : goal.invariant-loop-line
invariant-loop-line l = IsRead l.slots l.fn.lines l.lines l.steps.items

abbrev pub decreases-loop-line : goal.decreases-loop-line
decreases-loop-line l = length l.lines
