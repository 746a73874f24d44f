use Rattle.std.proofs.Common.{drop}
use Rattle.mig_base.specs.Values.{sum_reads}
use Rattle.reader_lists.specs.declared.readers.Readers.{Readers}
use Rattle.reader_lists.specs.Lists.{Adds}
use Rattle.reader_lists.proofs.reading.add_sum.Given as goal

abbrev pub invariant-loop-term : goal.invariant-loop-term
invariant-loop-term l = (new : Readers) → Adds l.readers l.reader (sum_reads (drop l.term-index l.terms)) new → Adds l.fn.readers l.reader (sum_reads l.terms) new
