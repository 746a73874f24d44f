use Rattle.std.proofs.Common.{◌≡◌, length, map}
use Rattle.mig_base.specs.FuseText as spec
use Rattle.jed_text.specs.Bodies.{fields_left, statements_of}
use Rattle.jed_text.specs.Marks.{marked_in}
use Rattle.jed_text.proofs.MarkLemmas.{marked_on}
use Rattle.jed_text.proofs.marks.marks_of.Given as goal

abbrev pub invariant-loop-field : goal.invariant-loop-field
invariant-loop-field l =
    (length l.marks.items ≡ l.count)
    × (marked_on l.count l.marks.items (map spec.statement_of (fields_left l.field-iterator)) ≡ marked_in l.count (statements_of l.fn.body))
