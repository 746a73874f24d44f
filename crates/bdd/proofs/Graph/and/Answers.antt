use Rattle.std.proofs.lemmas.Result.{IfOk-weaker}
use Rattle.bdd.proofs.IteLemmas.{conjunction_by}
use Rattle.bdd.proofs.Graph.and.Goals as goal

pub returns-clause-conjunction : goal.returns-clause-conjunction
returns-clause-conjunction c =
    IfOk-weaker c.ite.result _ _ (λ r. conjunction_by c.args.self.now c.ite.new.self c.args.f c.args.g c.constant-zero.result r c.constant-zero.ensures.constant.tree) c.ite.ensures.ite
