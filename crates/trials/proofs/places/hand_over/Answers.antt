use Rattle.std.proofs.Common.{length, ap, ◌∙◌}
use Rattle.std.proofs.lemmas.List.{length-set}
use Rattle.trials.proofs.MoreSteps.{over-all, over-more}
use Rattle.trials.proofs.places.hand_over.Goals as goal

pub loop-k-preserved : goal.loop-k-preserved
loop-k-preserved c = record {
  long = ap length c.set.ensures ∙ length-set c.loop-k.to c.loop-k.k c.level_or_x.result ∙ c.loop-k.invariant.long;
  so_far = over-more c.args.places.now c.args.from.now c.loop-k.to c.set.new.self c.loop-k.k c.level_or_x.result _ c.loop-k-test.true c.loop-k.invariant.long c.set.ensures c.level_or_x.ensures
      c.loop-k.invariant.so_far;
}

pub returns : goal.returns
returns c = over-all c.args.places.now c.args.from.now c.loop-k.to c.loop-k.k c.loop-k-test.false c.loop-k.invariant.long c.loop-k.invariant.so_far
