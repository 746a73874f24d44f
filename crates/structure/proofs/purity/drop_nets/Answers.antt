use Rattle.std.proofs.Common.{◌∙◌, below_more, sym, subst}
use Rattle.mig_base.specs.declared.circuit.Read.TheVariants.{OfNet}
use Rattle.structure.specs.declared.sets.NodeSet.{NodeSet}
use Rattle.structure.specs.Sweeps.{IsKept}
use Rattle.structure.proofs.Purities.{step-falls, still-falls}
use Rattle.structure.proofs.purity.drop_nets.Goals as goal
use Rattle.structure.proofs.purity.drop_nets.Goals.{then-drop_net, else-drop_net}

pub loop-net-preserved : goal.loop-net-preserved
loop-net-preserved c = record {
  above = c.drop_net.ensures.above;
  moved = elim c.if-drop_net.branch [
    | then-drop_net w ↦ λ _. step-falls c.loop-net.moved c.loop-net.set c.args.set.now c.drop_net.new.set c.loop-net.invariant.moved c.loop-net.invariant.stays (c.drop_net.ensures.moved w.if-drop_net.true)
    | else-drop_net w ↦ λ e. still-falls c.loop-net.set c.args.set.now c.drop_net.new.set (c.loop-net.invariant.moved (sym w.moved-is ∙ e)) (c.drop_net.ensures.stays w.if-drop_net.false).0
  ];
  stays = elim c.if-drop_net.branch [ then-drop_net w ↦ λ e. (cc) | else-drop_net w ↦ λ e. (c.drop_net.ensures.stays w.if-drop_net.false).0 ∙ c.loop-net.invariant.stays (sym w.moved-is ∙ e) ];
  kept = elim c.if-drop_net.branch [
    | then-drop_net w ↦ λ e. absurd (cc)
    | else-drop_net w ↦ λ e. below_more (λ n. IsKept c.args.circuit.now c.args.set.now (OfNet n)) c.loop-net.net (c.loop-net.invariant.kept (sym w.moved-is ∙ e))
        (subst (λ (s : NodeSet). IsKept c.args.circuit.now s (OfNet c.loop-net.net)) (c.loop-net.invariant.stays (sym w.moved-is ∙ e)) (c.drop_net.ensures.stays w.if-drop_net.false).1)
  ];
}
