use Rattle.bdd.specs.Diagram.{IsValid, Keeps}
use Rattle.benches.proofs.parity.parity.Given as goal

abbrev pub invariant-loop-v : goal.invariant-loop-v
invariant-loop-v l = record {
  keeps : Keeps l.fn.graph l.graph;
  valid : IsValid l.graph l.f;
}
