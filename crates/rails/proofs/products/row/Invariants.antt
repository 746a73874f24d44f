use Rattle.std.proofs.Common.{take}
use Rattle.bdd.specs.Diagram.{IsCanonical, Keeps}
use Rattle.rails.specs.Points.{row_holds, Is}
use Rattle.rails.proofs.products.row.Given as goal

abbrev pub invariant-loop-lit : goal.invariant-loop-lit
invariant-loop-lit l = record {
  keeps : Keeps l.fn.graph l.graph;
  canonical : IsCanonical l.graph;
  product : Is l.graph (row_holds l.rails (take l.lit-index l.lits)) l.product;
}
