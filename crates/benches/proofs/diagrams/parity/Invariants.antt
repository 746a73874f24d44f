use Rattle.bdd.specs.Diagram.{IsValid, Keeps}
use Rattle.benches.proofs.diagrams.parity.Given as goal

abbrev pub invariant-loop-above : goal.invariant-loop-above
invariant-loop-above l = record {
  keeps : Keeps l.fn.graph l.graph;
  valid : IsValid l.graph l.f;
}
