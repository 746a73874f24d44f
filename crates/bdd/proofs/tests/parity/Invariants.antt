use Rattle.bdd.specs.Diagram.{IsValid, Keeps}
use Rattle.bdd.proofs.tests.parity.Given as goal

abbrev pub invariant-loop-i : goal.invariant-loop-i
invariant-loop-i l = record {
  keeps : Keeps l.fn.graph l.graph;
  valid : IsValid l.graph l.f;
}
