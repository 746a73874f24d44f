use Rattle.std.proofs.Common.{◌≡◌, map}
use Rattle.mig_base.specs.FuseText as spec
use Rattle.jed_text.specs.Bodies.{fields_left, statements_of}
use Rattle.jed_text.specs.Overalls.{overall_in}
use Rattle.jed_text.proofs.OverallLemmas.{overall_on}
use Rattle.jed_text.proofs.overall.overall_of.Given as goal

abbrev pub invariant-loop-field : goal.invariant-loop-field
invariant-loop-field l = overall_on l.overall (map spec.statement_of (fields_left l.field-iterator)) ≡ overall_in (statements_of l.fn.body)
