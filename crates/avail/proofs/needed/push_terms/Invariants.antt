use Rattle.std.proofs.Common.{take}
use Rattle.avail.specs.Needed.{AddsProducts}
use Rattle.avail.proofs.needed.push_terms.Given as goal

abbrev pub invariant-loop-term : goal.invariant-loop-term
invariant-loop-term l = AddsProducts l.fn.reads.items l.reads.items (take l.term-index l.terms)
