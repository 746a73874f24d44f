use Rattle.std.proofs.Common.{◌≡◌, ◌++◌, take}
use Rattle.mig_base.specs.Values.{product_reads}
use Rattle.ranks.proofs.reading.add_product.Given as goal

abbrev pub invariant-loop-literal : goal.invariant-loop-literal
invariant-loop-literal l = l.reads.items ≡ l.fn.reads.items ++ product_reads (take l.literal-index l.literals)
