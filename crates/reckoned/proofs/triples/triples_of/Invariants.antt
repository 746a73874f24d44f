use Rattle.std.proofs.Common.{◌≡◌, take}
use Rattle.bdd.specs.Diagram.{IsCanonical, Keeps}
use Rattle.reckoned.specs.VariableTriples.{AreTriplesOf}
use Rattle.reckoned.proofs.triples.triples_of.Given as goal

abbrev pub invariant-loop-i : goal.invariant-loop-i
invariant-loop-i l = record {
  vars : l.rails.vars ≡ l.fn.rails.vars;
  keeps : Keeps l.fn.rails.graph l.rails.graph;
  canonical : IsCanonical l.rails.graph;
  triples : AreTriplesOf l.rails.graph l.fn.rails.vars (take l.i l.fn.rails.vars) l.made.items;
}
