use Rattle.std.proofs.Common.{◌≡◌, [], map}
use Rattle.mig_base.specs.First.{first_refusal}
use Rattle.mig_base.specs.FuseText as spec
use Rattle.jed_text.specs.Bodies.{fields_left, statements_of}
use Rattle.jed_text.proofs.sums.first_other_sum.Given as goal

abbrev pub invariant-loop-field : goal.invariant-loop-field
invariant-loop-field l =
    first_refusal (λ before f. spec.sum_refusal l.found f) [] (map spec.statement_of (fields_left l.field-iterator))
    ≡ first_refusal (λ before f. spec.sum_refusal l.found f) [] (statements_of l.fn.body)
