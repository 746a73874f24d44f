use Rattle.bdd.proofs.MarkLemmas.{negation_of}
use Rattle.bdd.proofs.Graph.not.Goals as goal

pub returns-clause-negation : goal.returns-clause-negation
returns-clause-negation c = negation_of c.args.self.now c.args.f c.with_mark.result c.requires c.with_mark.ensures.place c.with_mark.ensures.mark
