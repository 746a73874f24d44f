use Rattle.bdd.specs.Diagram.{IsCanonical, Keeps}
use Rattle.signs.specs.Signs.{AreSignsOf}
use Rattle.signs.proofs.registers.signs_of.Given as goal

abbrev pub invariant-loop-k : goal.invariant-loop-k
invariant-loop-k l = record {
  keeps : Keeps l.fn.graph l.graph;
  canonical : IsCanonical l.graph;
  made : AreSignsOf l.fn.graph l.graph l.b l.names l.ports l.triples l.k l.signs.items;
}
