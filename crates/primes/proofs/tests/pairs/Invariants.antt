use Rattle.bdd.specs.Diagram.{IsValid, Keeps}
use Rattle.primes.proofs.tests.pairs.Given as goal

abbrev pub invariant-loop-i : goal.invariant-loop-i
invariant-loop-i l = record {
  keeps : Keeps l.fn.graph l.graph;
  valid : IsValid l.graph l.f;
}
