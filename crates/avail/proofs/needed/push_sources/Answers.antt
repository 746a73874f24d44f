use Rattle.avail.proofs.CodeNeeded.{sources-step}
use Rattle.avail.proofs.needed.push_sources.Goals as goal

pub loop-lit-preserved : goal.loop-lit-preserved
loop-lit-preserved c = sources-step c.args.lits.now c.loop-lit.lit-index _ _ _ _ c.loop-lit-test.true c.loop-lit.invariant c.in_ok-push_variable.ensures
