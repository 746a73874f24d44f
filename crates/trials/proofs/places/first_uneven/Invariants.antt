use Rattle.std.proofs.Common.{ℕ, ◌<◌}
use Rattle.trials.specs.Stepping.{IsEvenAt}
use Rattle.trials.proofs.places.first_uneven.Given as goal

abbrev pub invariant-loop-i : goal.invariant-loop-i
invariant-loop-i l = (j : ℕ) → j < l.i → IsEvenAt l.places l.left l.right j
