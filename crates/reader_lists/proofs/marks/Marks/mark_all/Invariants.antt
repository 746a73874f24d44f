use Rattle.std.proofs.Common.{◌≡◌, true, take}
use Rattle.mig_base.specs.Among.{Among}
use Rattle.reader_lists.specs.declared.lists.Reader.{Reader}
use Rattle.reader_lists.specs.Marked.{marked_in}
use Rattle.reader_lists.proofs.marks.Marks.mark_all.Given as goal

abbrev pub invariant-loop-reader : goal.invariant-loop-reader
invariant-loop-reader l = record {
  marked : (r : Reader) → Among r (take l.reader-index l.readers) → marked_in l.self r ≡ true;
  keeps : (r : Reader) → marked_in l.fn.self r ≡ true → marked_in l.self r ≡ true;
}
