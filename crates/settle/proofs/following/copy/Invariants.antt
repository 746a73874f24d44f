use Rattle.std.proofs.Common.{ℕ, ◌≡◌, ◌<◌, length}
use Rattle.mig_base.specs.Levels.{level_at}
use Rattle.settle.proofs.following.copy.Given as goal

abbrev pub invariant-loop-place : goal.invariant-loop-place
invariant-loop-place l = record {
  long : length l.to ≡ length l.from;
  same : (j : ℕ) → j < l.place → level_at l.to j ≡ level_at l.from j;
}
