use Rattle.std.proofs.Common.{ℕ, ◌≡◌, ◌<◌, true, false}
use Rattle.mig_base.specs.declared.circuit.Read.TheVariants.{OfNet}
use Rattle.structure.specs.Waking.{IsWaking, NodeAwake, falses}
use Rattle.structure.proofs.liveness.wake_nets.Given as goal

abbrev pub invariant-loop-net : goal.invariant-loop-net
invariant-loop-net l = record {
  waking : IsWaking l.circuit l.waking;
  moved : l.moved ≡ true → falses l.waking.live < falses l.fn.waking.live;
  stays : l.moved ≡ false → l.waking ≡ l.fn.waking;
  awake : l.moved ≡ false → (n : ℕ) → n < l.net → NodeAwake l.circuit l.fn.waking (OfNet n);
}
