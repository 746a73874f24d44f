use Rattle.std.proofs.Common.{drop}
use Rattle.mig_base.specs.Values.{product_reads}
use Rattle.reader_lists.specs.declared.readers.Readers.{Readers}
use Rattle.reader_lists.specs.Lists.{Adds}
use Rattle.reader_lists.proofs.reading.add_product.Given as goal

abbrev pub invariant-loop-literal : goal.invariant-loop-literal
invariant-loop-literal l = (new : Readers) → Adds l.readers l.reader (product_reads (drop l.literal-index l.literals)) new → Adds l.fn.readers l.reader (product_reads l.literals) new
