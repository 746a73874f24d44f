use Rattle.std.proofs.Common.{◌≡◌, true, take}
use Rattle.std.specs.List.{list_all}
use Rattle.bdd.specs.Diagram.{IsCanonical, Keeps}
use Rattle.joiner.specs.Joined.{literal_read}
use Rattle.joiner.specs.Pairs.{Reads}
use Rattle.joiner.proofs.sums.product.Given as goal

abbrev pub invariant-loop-lit : goal.invariant-loop-lit
invariant-loop-lit l = record {
  vars : l.rails.vars ≡ l.fn.rails.vars;
  keeps : Keeps l.fn.rails.graph l.rails.graph;
  canonical : IsCanonical l.rails.graph;
  product : Reads l.fn.rails.vars l.rails.graph l.pairs (λ r. list_all (literal_read r true) (take l.lit-index l.lits)) l.product;
}
