use Rattle.std.proofs.Common.{ℕ, ◌≡◌, ◌<◌, true, false}
use Rattle.structure.specs.Waking.{IsWaking, QAwake, falses}
use Rattle.structure.proofs.liveness.wake_registered.Given as goal

abbrev pub invariant-loop-unit : goal.invariant-loop-unit
invariant-loop-unit l = record {
  waking : IsWaking l.circuit l.waking;
  moved : l.moved ≡ true → falses l.waking.live < falses l.fn.waking.live;
  stays : l.moved ≡ false → l.waking ≡ l.fn.waking;
  awake : l.moved ≡ false → (u : ℕ) → u < l.unit → QAwake l.circuit l.fn.waking u;
}
