use Rattle.std.proofs.Common.{◌≡◌, take}
use Rattle.joiner.specs.Marked.{vars_of, with_vars}
use Rattle.joiner.proofs.marks.Marks.add_product.Given as goal

abbrev pub invariant-loop-literal : goal.invariant-loop-literal
invariant-loop-literal l = l.self ≡ with_vars l.fn.self (vars_of (take l.literal-index l.literals))
