use Rattle.std.proofs.Common.{ℕ, ◌<◌}
use Rattle.trials.specs.Stepping.{NoneOver}
use Rattle.trials.specs.Trials.{trial_of}
use Rattle.trials.proofs.differing.first_difference.Given as goal

abbrev pub invariant-loop-k : goal.invariant-loop-k
invariant-loop-k l = (j : ℕ) → j < l.k → NoneOver l.a l.b (trial_of l.a.net j)
