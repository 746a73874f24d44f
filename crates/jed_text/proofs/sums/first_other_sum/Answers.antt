use Rattle.std.proofs.Common.{◌≡◌, [], None, map, ap, sym, ◌∙◌}
use Rattle.mig_base.specs.First.{first_refusal, or_else}
use Rattle.mig_base.specs.FuseText.{Statement, statement_of, sum_refusal, sum_refusal_by}
use Rattle.jed_text.specs.Bodies.{field_said, fields_left}
use Rattle.jed_text.proofs.FieldLemmas.{judged-cons}
use Rattle.jed_text.proofs.sums.first_other_sum.Goals as goal

pub loop-field-preserved : goal.loop-field-preserved
loop-field-preserved c =
    let found = c.args.found in
    let f : Statement = statement_of (field_said c.in-Some.field) in
    let rest = map statement_of (fields_left c.next.new.self) in
    let none : sum_refusal found f ≡ None = sym (c.in_default.ensures ∙ ap (sum_refusal_by found) c.said.ensures) in
    sym (ap (λ fs. first_refusal (λ before g. sum_refusal found g) [] (map statement_of fs)) c.in-Some.ensures.steps
    ∙ judged-cons (sum_refusal found) f rest ∙ ap (λ o. or_else o (first_refusal (λ before g. sum_refusal found g) [] rest)) none)
    ∙ c.loop-field.invariant
