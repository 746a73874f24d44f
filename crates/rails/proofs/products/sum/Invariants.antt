use Rattle.std.proofs.Common.{take}
use Rattle.bdd.specs.Diagram.{IsCanonical, Keeps}
use Rattle.rails.specs.Points.{sum_holds, Is}
use Rattle.rails.proofs.products.sum.Given as goal

abbrev pub invariant-loop-product : goal.invariant-loop-product
invariant-loop-product l = record {
  keeps : Keeps l.fn.graph l.graph;
  canonical : IsCanonical l.graph;
  sum : Is l.graph (sum_holds l.rails (take l.product-index l.rows)) l.sum;
}
