use Rattle.std.proofs.Common.{◌≡◌, take}
use Rattle.mig_base.specs.Values.{product_reads}
use Rattle.structure.specs.NodeSets.{with_nodes}
use Rattle.structure.proofs.unit_reads.add_product.Given as goal

abbrev pub invariant-loop-literal : goal.invariant-loop-literal
invariant-loop-literal l = l.set ≡ with_nodes l.fn.set (product_reads (take l.literal-index l.literals))
