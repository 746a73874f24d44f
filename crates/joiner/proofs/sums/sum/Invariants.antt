use Rattle.std.proofs.Common.{◌≡◌, true, take}
use Rattle.bdd.specs.Diagram.{IsCanonical, Keeps}
use Rattle.joiner.specs.Joined.{terms_read}
use Rattle.joiner.specs.Pairs.{Reads}
use Rattle.joiner.proofs.sums.sum.Given as goal

abbrev pub invariant-loop-term : goal.invariant-loop-term
invariant-loop-term l = record {
  vars : l.rails.vars ≡ l.fn.rails.vars;
  keeps : Keeps l.fn.rails.graph l.rails.graph;
  canonical : IsCanonical l.rails.graph;
  sum : Reads l.fn.rails.vars l.rails.graph l.pairs (λ r. terms_read r true (take l.term-index l.terms)) l.sum;
}
