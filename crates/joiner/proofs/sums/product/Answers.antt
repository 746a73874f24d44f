use Rattle.std.proofs.Common.{◌+◌, true, refl, ◌∙◌, ap, subst, take, take_all, get_or, List, [], Bool, false}
use Rattle.std.specs.List.{list_all}
use Rattle.mig_base.specs.declared.nets.Var.{Var}
use Rattle.mig_base.specs.declared.nets.Var.TheVariants.{Net}
use Rattle.mig_base.specs.declared.nets.VarLit.{VarLit}
use Rattle.rails.specs.Variables.{all_rails}
use Rattle.rails.specs.Points.{row_holds}
use Rattle.rails.proofs.ProductLemmas.{all_more}
use Rattle.joiner.specs.Joined.{literal_read}
use Rattle.joiner.specs.Pairs.{is_known, Reads}
use Rattle.joiner.proofs.PairLaws.{each_passes, fit_kept, pairs_kept, pairs_kept_in, reads_kept, reads_both, reads_constant}
use Rattle.joiner.proofs.sums.product.Goals as goal
use Rattle.bdd.proofs.GraphLemmas.{keeps_trans}

abbrev first : VarLit
first = record { var = Net 0; high = false }

pub literal-requires-clause-fit : goal.literal-requires-clause-fit
literal-requires-clause-fit c = fit_kept c.args.rails.now c.loop-lit.rails c.loop-lit.invariant.vars c.loop-lit.invariant.keeps c.requires.fit

pub literal-requires-clause-canonical : goal.literal-requires-clause-canonical
literal-requires-clause-canonical c = c.loop-lit.invariant.canonical

pub literal-requires-clause-pairs : goal.literal-requires-clause-pairs
literal-requires-clause-pairs c = pairs_kept_in c.args.rails.now c.loop-lit.rails c.args.pairs.now c.loop-lit.invariant.vars c.loop-lit.invariant.keeps c.requires.pairs

pub literal-requires-clause-known : goal.literal-requires-clause-known
literal-requires-clause-known c =
    ap (λ (vs : List (Var × Bool)). is_known vs c.args.pairs.now (get_or c.args.lits.now c.loop-lit.lit-index first).var) c.loop-lit.invariant.vars
    ∙ each_passes (λ (x : VarLit). is_known c.args.rails.now.vars c.args.pairs.now x.var) c.args.lits.now c.loop-lit.lit-index first c.loop-lit-test.true c.requires.known

pub loop-lit-init : goal.loop-lit-init
loop-lit-init c = record {
  vars = c.in_ok-product.ensures.vars;
  keeps = c.in_ok-product.ensures.keeps;
  canonical = c.in_ok-product.ensures.canonical;
  product = reads_constant c.args.rails.now.vars c.row.new.self.graph c.args.pairs.now true (row_holds (all_rails c.args.rails.now.vars) []) c.in_ok-product.product (λ p. refl)
      c.in_ok-product.ensures.row c.in_ok-product.ensures.monotone;
}

pub loop-lit-preserved : goal.loop-lit-preserved
loop-lit-preserved c =
    let vars = c.args.rails.now.vars in
    let pairs = c.args.pairs.now in
    let lits = c.args.lits.now in
    let i = c.loop-lit.lit-index in
    let before = pairs_kept vars c.args.rails.now.graph c.loop-lit.rails.graph pairs c.loop-lit.invariant.keeps c.requires.pairs in
    let after = pairs_kept vars c.loop-lit.rails.graph c.literal.new.rails.graph pairs c.in_ok-x.ensures.keeps before in
    let is : Reads vars c.literal.new.rails.graph pairs (λ r. literal_read r true (get_or lits i first)) c.in_ok-x.x =
    subst (λ (vs : List (Var × Bool)). Reads vs c.literal.new.rails.graph pairs (λ r. literal_read r true (get_or lits i first)) c.in_ok-x.x) c.loop-lit.invariant.vars c.in_ok-x.ensures.literal in
    record {
      vars = c.in_ok-product-2.ensures.vars ∙ c.in_ok-x.ensures.vars ∙ c.loop-lit.invariant.vars;
      keeps = keeps_trans c.args.rails.now.graph c.loop-lit.rails.graph c.both.new.rails.graph c.loop-lit.invariant.keeps
          (keeps_trans c.loop-lit.rails.graph c.literal.new.rails.graph c.both.new.rails.graph c.in_ok-x.ensures.keeps c.in_ok-product-2.ensures.keeps);
      canonical = c.in_ok-product-2.ensures.canonical;
      product = reads_both vars c.literal.new.rails.graph c.both.new.rails.graph pairs c.in_ok-product-2.ensures.keeps after
          (λ r. list_all (literal_read r true) (take i lits)) (λ r. literal_read r true (get_or lits i first)) (λ r. list_all (literal_read r true) (take (i + 1) lits))
          c.loop-lit.product c.in_ok-x.x c.in_ok-product-2.product
          (reads_kept vars c.loop-lit.rails.graph c.literal.new.rails.graph pairs c.in_ok-x.ensures.keeps before (λ r. list_all (literal_read r true) (take i lits)) c.loop-lit.product c.loop-lit.invariant.product)
          is c.in_ok-product-2.ensures.both
          (λ q. all_more (literal_read q true) lits i first c.loop-lit-test.true);
    }

pub returns-clause-product : goal.returns-clause-product
returns-clause-product c =
    subst (λ (xs : List VarLit). Reads c.args.rails.now.vars c.loop-lit.rails.graph c.args.pairs.now (λ r. list_all (literal_read r true) xs) c.loop-lit.product)
    (take_all c.loop-lit.lit-index c.args.lits.now c.loop-lit-test.false) c.loop-lit.invariant.product
