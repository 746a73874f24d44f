use Rattle.std.proofs.Common.{take, drop, reverse, length}
use Rattle.bdd.specs.Diagram.{Keeps, IsCanonical, function_of}
use Rattle.cover.specs.Cover.{IsLeft}
use Rattle.cover.specs.Sums.{IsSumRef, AreSumsBefore}
use Rattle.cover.proofs.reduction.reduced.Given as goal

abbrev pub invariant-loop-i : goal.invariant-loop-i
invariant-loop-i l = record {
  keeps : Keeps l.fn.graph l.graph;
  canonical : IsCanonical l.graph;
  before : AreSumsBefore l.graph l.terms (length l.terms) l.before.items;
  after : IsSumRef l.graph (reverse l.left.items) l.after;
  left : IsLeft (function_of l.fn.graph l.f) (take l.i l.terms) (drop l.i l.terms) (reverse l.left.items);
}
