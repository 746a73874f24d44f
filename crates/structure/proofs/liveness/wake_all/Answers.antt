use Rattle.std.proofs.Common.{◌≡◌, ◌∙◌, true, get_or, sym, subst}
use Rattle.structure.specs.declared.liveness.Waking.{Waking}
use Rattle.structure.specs.Waking.{is_awake}
use Rattle.structure.proofs.NeededNodes.{among-at}
use Rattle.structure.proofs.Wakings.{awake-more, step-falls, still-falls}
use Rattle.structure.proofs.liveness.wake_all.Goals as goal
use Rattle.structure.proofs.liveness.wake_all.Goals.{then-wake, else-wake}

pub wake-requires-clause-live : goal.wake-requires-clause-live
wake-requires-clause-live c = c.requires.live (get_or c.args.units.now c.loop-unit.unit-index 0) (among-at c.args.units.now c.loop-unit.unit-index 0 c.loop-unit-test.true)

pub loop-unit-preserved : goal.loop-unit-preserved
loop-unit-preserved c = record {
  waking = c.wake.ensures.waking;
  moved = elim c.if-wake.branch [
    | then-wake w ↦ λ _. step-falls c.loop-unit.moved c.loop-unit.waking c.args.waking.now c.wake.new.waking c.loop-unit.invariant.moved c.loop-unit.invariant.stays (c.wake.ensures.moved w.if-wake.true)
    | else-wake w ↦ λ e. still-falls c.loop-unit.waking c.args.waking.now c.wake.new.waking (c.loop-unit.invariant.moved (sym w.moved-is ∙ e)) (c.wake.ensures.stays w.if-wake.false).0
  ];
  stays = elim c.if-wake.branch [ then-wake w ↦ λ e. (cc) | else-wake w ↦ λ e. (c.wake.ensures.stays w.if-wake.false).0 ∙ c.loop-unit.invariant.stays (sym w.moved-is ∙ e) ];
  awake = elim c.if-wake.branch [
    | then-wake w ↦ λ e. absurd (cc)
    | else-wake w ↦ λ e. awake-more c.args.waking.now c.args.units.now c.loop-unit.unit-index c.loop-unit-test.true (c.loop-unit.invariant.awake (sym w.moved-is ∙ e))
        (subst (λ (m : Waking). is_awake m (get_or c.args.units.now c.loop-unit.unit-index 0) ≡ true) (c.loop-unit.invariant.stays (sym w.moved-is ∙ e)) (c.wake.ensures.stays w.if-wake.false).1)
  ];
}
