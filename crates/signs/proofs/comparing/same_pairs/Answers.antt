use Rattle.signs.specs.Signs.{SameFunctions}
use Rattle.signs.proofs.BothTests.{both-hold}
use Rattle.signs.proofs.comparing.same_pairs.Goals as goal

pub returns-clause-same : goal.returns-clause-same
returns-clause-same c =
    both-hold c.same-one.result c.same-zero.result c.both.result (SameFunctions c.args.graph.now c.args.left.0 c.args.right.0) (SameFunctions c.args.graph.now c.args.left.1 c.args.right.1) c.both.ensures
    c.same-one.ensures.same c.same-zero.ensures.same
