use Rattle.std.proofs.lemmas.Result.{IfOk-weaker}
use Rattle.bdd.proofs.IteLemmas.{disjunction_by}
use Rattle.bdd.proofs.Graph.or.Goals as goal

pub returns-clause-disjunction : goal.returns-clause-disjunction
returns-clause-disjunction c =
    IfOk-weaker c.ite.result _ _ (λ r. disjunction_by c.args.self.now c.ite.new.self c.args.f c.args.g c.constant-one.result r c.constant-one.ensures.constant.tree) c.ite.ensures.ite
