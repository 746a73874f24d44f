use Rattle.std.proofs.Common.{◌+◌, ◌∙◌, subst, get_or, take, take_all, true, false, List}
use Rattle.mig_base.specs.declared.nets.Var.TheVariants.{Net}
use Rattle.mig_base.specs.declared.nets.VarLit.{VarLit}
use Rattle.rails.specs.Points.{row_holds, literal_holds, Is}
use Rattle.rails.proofs.ProductLemmas.{all_more, factor_more, constant_is}
use Rattle.rails.proofs.products.row.Goals as goal
use Rattle.bdd.proofs.GraphLemmas.{keeps_trans, keeps_refl}

abbrev first : VarLit
first = record { var = Net 0; high = false }

pub literal-requires-clause-fit : goal.literal-requires-clause-fit
literal-requires-clause-fit c = c.loop-lit.invariant.keeps.vars ∙ c.requires.fit

pub loop-lit-init : goal.loop-lit-init
loop-lit-init c = record {
  keeps = keeps_refl c.args.graph.now;
  canonical = c.constant-product.ensures.canonical;
  product = constant_is c.args.graph.now true c.constant-product.result c.constant-product.ensures.constant;
}

pub loop-lit-preserved : goal.loop-lit-preserved
loop-lit-preserved c =
    let rails = c.args.rails.now in
    let lits = c.args.lits.now in
    let i = c.loop-lit.lit-index in
    record {
      keeps = keeps_trans c.args.graph.now c.loop-lit.graph c.and.new.self c.loop-lit.invariant.keeps
          (keeps_trans c.loop-lit.graph c.literal.new.graph c.and.new.self c.in_ok-x.ensures.keeps c.in_ok-product.ensures.keeps);
      canonical = c.in_ok-product.ensures.canonical;
      product = factor_more c.loop-lit.graph c.literal.new.graph c.and.new.self (row_holds rails (take i lits)) (literal_holds rails (get_or lits i first)) (row_holds rails (take (i + 1) lits))
          c.loop-lit.product c.in_ok-x.x c.in_ok-product.product c.loop-lit.invariant.product c.in_ok-x.ensures.keeps c.in_ok-x.ensures.literal c.in_ok-product.ensures.conjunction
          (λ p. all_more (λ x. literal_holds rails x p) lits i first c.loop-lit-test.true);
    }

pub returns-clause-row : goal.returns-clause-row
returns-clause-row c =
    subst (λ (xs : List VarLit). Is c.loop-lit.graph (row_holds c.args.rails.now xs) c.loop-lit.product) (take_all c.loop-lit.lit-index c.args.lits.now c.loop-lit-test.false) c.loop-lit.invariant.product
