use Rattle.std.proofs.Common.{◌+◌, true, ◌∙◌, ap, subst, take, get_or, List, Bool}
use Rattle.std.specs.List.{list_all}
use Rattle.mig_base.specs.declared.nets.Var.{Var}
use Rattle.mig_base.specs.declared.nets.VarLit.{VarLit}
use Rattle.mig_base.specs.declared.nets.VarProduct.{VarProduct}
use Rattle.rails.proofs.ProductLemmas.{any_more}
use Rattle.joiner.specs.Joined.{literal_read, product_read, terms_read}
use Rattle.joiner.specs.Pairs.{Reads}
use Rattle.joiner.proofs.PairLaws.{pairs_kept, reads_kept, reads_either}
use Rattle.joiner.proofs.sums.sum.Goals as goal
use Rattle.bdd.proofs.GraphLemmas.{keeps_trans}

pub loop-term-preserved : goal.loop-term-preserved
loop-term-preserved c =
    let vars = c.args.rails.now.vars in
    let pairs = c.args.pairs.now in
    let terms = c.args.terms.now in
    let i = c.loop-term.term-index in
    let item = c.term-item.result in
    let before = pairs_kept vars c.args.rails.now.graph c.loop-term.rails.graph pairs c.loop-term.invariant.keeps c.requires.pairs in
    let after = pairs_kept vars c.loop-term.rails.graph c.product.new.rails.graph pairs c.in_ok-x.ensures.keeps before in
    let over : Reads vars c.product.new.rails.graph pairs (λ r. list_all (literal_read r true) c.items.result.now) c.in_ok-x.x =
    subst (λ (vs : List (Var × Bool)). Reads vs c.product.new.rails.graph pairs (λ r. list_all (literal_read r true) c.items.result.now) c.in_ok-x.x) c.loop-term.invariant.vars c.in_ok-x.ensures.product in
    let is : Reads vars c.product.new.rails.graph pairs (λ r. product_read r true (get_or terms i item)) c.in_ok-x.x =
    subst (λ (xs : List VarLit). Reads vars c.product.new.rails.graph pairs (λ r. list_all (literal_read r true) xs) c.in_ok-x.x) (c.items.ensures ∙ ap (λ (t : VarProduct). t.lits) c.term-item.is) over in
    record {
      vars = c.in_ok-sum-2.ensures.vars ∙ c.in_ok-x.ensures.vars ∙ c.loop-term.invariant.vars;
      keeps = keeps_trans c.args.rails.now.graph c.loop-term.rails.graph c.either.new.rails.graph c.loop-term.invariant.keeps
          (keeps_trans c.loop-term.rails.graph c.product.new.rails.graph c.either.new.rails.graph c.in_ok-x.ensures.keeps c.in_ok-sum-2.ensures.keeps);
      canonical = c.in_ok-sum-2.ensures.canonical;
      sum = reads_either vars c.product.new.rails.graph c.either.new.rails.graph pairs c.in_ok-sum-2.ensures.keeps after
          (λ r. terms_read r true (take i terms)) (λ r. product_read r true (get_or terms i item)) (λ r. terms_read r true (take (i + 1) terms))
          c.loop-term.sum c.in_ok-x.x c.in_ok-sum-2.sum
          (reads_kept vars c.loop-term.rails.graph c.product.new.rails.graph pairs c.in_ok-x.ensures.keeps before (λ r. terms_read r true (take i terms)) c.loop-term.sum c.loop-term.invariant.sum)
          is c.in_ok-sum-2.ensures.either
          (λ q. any_more (product_read q true) terms i item c.loop-term-test.true);
    }
