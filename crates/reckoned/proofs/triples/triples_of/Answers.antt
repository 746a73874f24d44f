use Rattle.std.proofs.Common.{◌<◌, List, Bool, false, length, ◌∙◌, subst}
use Rattle.mig_base.specs.declared.nets.Var.{Var}
use Rattle.mig_base.specs.declared.nets.Var.TheVariants.{Net}
use Rattle.bdd.proofs.GraphLemmas.{keeps_trans}
use Rattle.reckoned.proofs.TripleLaws.{of-next}
use Rattle.reckoned.proofs.triples.triples_of.Goals as goal

pub loop-i-preserved : goal.loop-i-preserved
loop-i-preserved c =
    let first = c.args.rails.now in
    let now = c.loop-i.rails in
    let new = c.triple_of.new.rails in
    record {
      vars = c.in_ok-triple_of.ensures.vars ∙ c.loop-i.invariant.vars;
      keeps = keeps_trans first.graph now.graph new.graph c.loop-i.invariant.keeps c.in_ok-triple_of.ensures.keeps;
      canonical = c.in_ok-triple_of.ensures.canonical;
      triples = of-next now.graph new.graph first.vars now.vars c.vars.result.now c.loop-i.i (Net 0, false) c.loop-i.made.items c.push.new.self.items c.in_ok-triple_of.field-0
          c.loop-i.invariant.vars c.vars.ensures.vars (subst (λ (vs : List (Var × Bool)). c.loop-i.i < length vs) c.vars-count.ensures.vars c.loop-i-test.true)
          c.in_ok-triple_of.ensures.keeps c.in_ok-push.ensures.items c.loop-i.invariant.triples c.in_ok-triple_of.ensures.triple;
    }
