use Rattle.std.proofs.Common.{◌≡◌, take}
use Rattle.joiner.specs.Marked.{vars_in, with_vars}
use Rattle.joiner.proofs.marks.Marks.add_terms.Given as goal

abbrev pub invariant-loop-term : goal.invariant-loop-term
invariant-loop-term l = l.self ≡ with_vars l.fn.self (vars_in (take l.term-index l.terms))
