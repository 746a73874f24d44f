use Rattle.std.proofs.Common.{◌+◌, rules, sym, subst, ◌∷◌, [], ◌++◌}
use Rattle.bdd.proofs.GraphLemmas.{keeps_trans}
use Rattle.bdd.specs.Diagram.{Keeps}
use Rattle.cover.specs.Sums.{AreSumsBefore}
use Rattle.cover.proofs.SumLemmas.{within_at, sum_more, sums_more, sums_kept}
use Rattle.cover.proofs.sums.sums_before.Goals as goal

pub product-requires : goal.product-requires
product-requires c =
    within_at c.args.graph.now.vars c.loop-term.graph.vars c.args.terms.now c.loop-term.term-index c.term-item.result c.loop-term.invariant.keeps.vars c.loop-term-test.true c.term-item.is c.requires

pub loop-term-preserved : goal.loop-term-preserved
loop-term-preserved c =
    let d = c.loop-term.graph in
    let e = c.product.new.graph in
    let a = c.or.new.self in
    let k : Keeps d a = search (rules, keeps_trans) in
    record {
      keeps = search (rules, keeps_trans);
      canonical = c.in_ok-sum.ensures.canonical;
      sum = sum_more d e a c.args.terms.now c.loop-term.term-index c.term-item.result c.loop-term.sum c.in_ok-product.product c.in_ok-sum.sum
          c.loop-term-test.true c.term-item.is c.in_ok-product.ensures.keeps c.loop-term.invariant.sum c.in_ok-product.ensures.product c.in_ok-sum.ensures.disjunction;
      sums = subst (AreSumsBefore a c.args.terms.now (c.loop-term.term-index + 1)) (sym c.in_ok-push.ensures.items)
          (sums_kept d a c.args.terms.now (c.loop-term.term-index + 1) (c.loop-term.sums.items ++ c.loop-term.sum ∷ []) k
          (sums_more d c.args.terms.now c.loop-term.term-index c.loop-term.sums.items c.loop-term.sum c.loop-term.invariant.sums c.loop-term.invariant.sum));
    }
