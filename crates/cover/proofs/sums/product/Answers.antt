use Rattle.std.proofs.Common.{rules}
use Rattle.bdd.proofs.GraphLemmas.{keeps_trans}
use Rattle.cover.proofs.SumLemmas.{product_more}
use Rattle.cover.proofs.sums.product.Goals as goal

pub loop-place-preserved : goal.loop-place-preserved
loop-place-preserved c = record {
  keeps = search (rules, keeps_trans);
  canonical = c.in_ok-product.ensures.canonical;
  product = product_more c.loop-place.graph c.literal.new.graph c.and.new.self c.items-place-items.result.now c.loop-place.place-index _ c.loop-place.product c.in_ok-literal.literal c.in_ok-product.product
      c.loop-place-test.true c.in_ok-literal.ensures.keeps c.loop-place.invariant.product c.in_ok-literal.ensures.literal c.in_ok-product.ensures.conjunction;
}
