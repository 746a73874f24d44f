use Rattle.std.proofs.Common.{take}
use Rattle.bdd.specs.Diagram.{Keeps, IsCanonical}
use Rattle.cover.specs.Sums.{IsSumRef, AreSumsBefore}
use Rattle.cover.proofs.sums.sums_before.Given as goal

abbrev pub invariant-loop-term : goal.invariant-loop-term
invariant-loop-term l = record {
  keeps : Keeps l.initial.graph l.graph;
  canonical : IsCanonical l.graph;
  sum : IsSumRef l.graph (take l.term-index l.terms) l.sum;
  sums : AreSumsBefore l.graph l.terms l.term-index l.sums.items;
}
