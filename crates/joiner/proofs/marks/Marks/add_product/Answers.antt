use Rattle.joiner.proofs.Marking.{one-more_var}
use Rattle.joiner.proofs.marks.Marks.add_product.Goals as goal

pub loop-literal-preserved : goal.loop-literal-preserved
loop-literal-preserved c =
    one-more_var c.args.self.now c.loop-literal.self c.add.new.self c.args.literals.now c.loop-literal.literal-index _ c.loop-literal-test.true c.loop-literal.invariant c.add.ensures
