use Rattle.std.proofs.Common.{ℕ, ◌≡◌, ◌<◌, length, map}
use Rattle.mig_base.specs.Levels.{level_at, or_x}
use Rattle.mig_base.specs.declared.levels.Level.{Level}
use Rattle.trials.specs.Places.{level_by_place}
use Rattle.trials.proofs.places.hand_over.Given as goal

abbrev pub invariant-loop-k : goal.invariant-loop-k
invariant-loop-k l = record {
  long : length l.to ≡ length l.places;
  so_far : (j : ℕ) → j < l.k → level_at l.to j ≡ level_at (map (λ place. or_x (λ (level : Level). level) (level_by_place l.«from» place)) l.places) j;
}
