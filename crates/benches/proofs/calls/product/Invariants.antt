use Rattle.bdd.specs.Diagram.{IsValid, Keeps}
use Rattle.benches.proofs.calls.product.Given as goal

abbrev pub invariant-loop : goal.invariant-loop
invariant-loop l = record {
  keeps : Keeps l.fn.graph l.graph;
  valid : IsValid l.graph l.f;
}
