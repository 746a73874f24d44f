use Rattle.bdd.specs.Diagram.{IsValid, Keeps}
use Rattle.benches.proofs.diagrams.carry.Given as goal

abbrev pub invariant-loop-bit : goal.invariant-loop-bit
invariant-loop-bit l = record {
  keeps : Keeps l.fn.graph l.graph;
  valid : IsValid l.graph l.f;
}
