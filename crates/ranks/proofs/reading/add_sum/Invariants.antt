use Rattle.std.proofs.Common.{◌≡◌, ◌++◌, take}
use Rattle.mig_base.specs.Values.{sum_reads}
use Rattle.ranks.proofs.reading.add_sum.Given as goal

abbrev pub invariant-loop-term : goal.invariant-loop-term
invariant-loop-term l = l.reads.items ≡ l.fn.reads.items ++ sum_reads (take l.term-index l.terms)
