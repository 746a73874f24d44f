use Rattle.std.proofs.Common.{◌+◌, ◌∙◌, ap, subst, get_or, take, take_all, false, List}
use Rattle.mig_base.specs.declared.nets.VarLit.{VarLit}
use Rattle.mig_base.specs.declared.nets.VarProduct.{VarProduct}
use Rattle.rails.specs.Points.{row_holds, sum_holds, Is}
use Rattle.rails.proofs.ProductLemmas.{any_more, summand_more, constant_is}
use Rattle.rails.proofs.products.sum.Goals as goal
use Rattle.bdd.proofs.GraphLemmas.{keeps_trans, keeps_refl}

pub loop-product-init : goal.loop-product-init
loop-product-init c = record {
  keeps = keeps_refl c.args.graph.now;
  canonical = c.constant-sum.ensures.canonical;
  sum = constant_is c.args.graph.now false c.constant-sum.result c.constant-sum.ensures.constant;
}

pub loop-product-preserved : goal.loop-product-preserved
loop-product-preserved c =
    let rails = c.args.rails.now in
    let rows = c.args.rows.now in
    let i = c.loop-product.product-index in
    let item = c.product-item.result in
    let is : Is c.row.new.graph (row_holds rails (get_or rows i item).lits) c.in_ok-x.x =
    subst (λ (xs : List VarLit). Is c.row.new.graph (row_holds rails xs) c.in_ok-x.x) (c.items.ensures ∙ ap (λ (r : VarProduct). r.lits) c.product-item.is) c.in_ok-x.ensures.row in
    record {
      keeps = keeps_trans c.args.graph.now c.loop-product.graph c.or.new.self c.loop-product.invariant.keeps
          (keeps_trans c.loop-product.graph c.row.new.graph c.or.new.self c.in_ok-x.ensures.keeps c.in_ok-sum.ensures.keeps);
      canonical = c.in_ok-sum.ensures.canonical;
      sum = summand_more c.loop-product.graph c.row.new.graph c.or.new.self (sum_holds rails (take i rows)) (row_holds rails (get_or rows i item).lits) (sum_holds rails (take (i + 1) rows))
          c.loop-product.sum c.in_ok-x.x c.in_ok-sum.sum c.loop-product.invariant.sum c.in_ok-x.ensures.keeps is c.in_ok-sum.ensures.disjunction
          (λ p. any_more (λ row. row_holds rails row.lits p) rows i item c.loop-product-test.true);
    }

pub returns-clause-sum : goal.returns-clause-sum
returns-clause-sum c =
    subst (λ (xs : List VarProduct). Is c.loop-product.graph (sum_holds c.args.rails.now xs) c.loop-product.sum) (take_all c.loop-product.product-index c.args.rows.now c.loop-product-test.false) c.loop-product.invariant.sum
