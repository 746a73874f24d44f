use Rattle.std.proofs.Common.{◌≡◌, ◌<◌, true, false, take}
use Rattle.structure.specs.Waking.{IsWaking, AreAwake, falses}
use Rattle.structure.proofs.liveness.wake_all.Given as goal

abbrev pub invariant-loop-unit : goal.invariant-loop-unit
invariant-loop-unit l = record {
  waking : IsWaking l.circuit l.waking;
  moved : l.moved ≡ true → falses l.waking.live < falses l.fn.waking.live;
  stays : l.moved ≡ false → l.waking ≡ l.fn.waking;
  awake : l.moved ≡ false → AreAwake l.fn.waking (take l.unit-index l.units);
}
