use Rattle.std.proofs.Common.{List, subst}
use Rattle.std.proofs.lemmas.List.{take_more}
use Rattle.mig_base.specs.Among.{Among}
use Rattle.reader_lists.specs.declared.lists.Reader.{Reader}
use Rattle.reader_lists.proofs.Flags.{mark-more}
use Rattle.reader_lists.proofs.marks.Marks.mark_all.Goals as goal

pub loop-reader-preserved : goal.loop-reader-preserved
loop-reader-preserved c = record {
  marked = λ r a. mark-more c.loop-reader.self c.mark.new.self _ _ c.loop-reader.invariant.marked c.mark.ensures.marked c.mark.ensures.keeps r
      (subst (λ (some : List Reader). Among r some) (take_more c.args.readers.now c.loop-reader.reader-index _ c.loop-reader-test.true) a);
  keeps = λ r h. c.mark.ensures.keeps r (c.loop-reader.invariant.keeps r h);
}
