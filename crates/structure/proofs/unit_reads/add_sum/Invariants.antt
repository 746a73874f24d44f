use Rattle.std.proofs.Common.{◌≡◌, take}
use Rattle.mig_base.specs.Values.{sum_reads}
use Rattle.structure.specs.NodeSets.{with_nodes}
use Rattle.structure.proofs.unit_reads.add_sum.Given as goal

abbrev pub invariant-loop-term : goal.invariant-loop-term
invariant-loop-term l = l.set ≡ with_nodes l.fn.set (sum_reads (take l.term-index l.terms))
