use Rattle.std.proofs.Common.{take}
use Rattle.bdd.specs.Diagram.{Keeps, IsCanonical}
use Rattle.cover.specs.Sums.{IsProductRef}
use Rattle.cover.proofs.sums.product.Given as goal

abbrev pub invariant-loop-place : goal.invariant-loop-place
invariant-loop-place l = record {
  keeps : Keeps l.initial.graph l.graph;
  canonical : IsCanonical l.graph;
  product : IsProductRef l.graph (take l.place-index l.place-items) l.product;
}
