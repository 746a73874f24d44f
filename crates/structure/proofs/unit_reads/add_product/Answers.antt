use Rattle.structure.proofs.Adding.{one-more_source}
use Rattle.structure.proofs.unit_reads.add_product.Goals as goal

pub loop-literal-preserved : goal.loop-literal-preserved
loop-literal-preserved c =
    one-more_source c.args.set.now c.loop-literal.set c.add.new.self c.args.literals.now c.loop-literal.literal-index _ c.loop-literal-test.true c.loop-literal.invariant c.add.ensures
