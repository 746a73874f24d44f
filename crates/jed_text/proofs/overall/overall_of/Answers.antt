use Rattle.std.proofs.Common.{None, map, ap, sym, ◌∙◌}
use Rattle.std.proofs.lemmas.Result.{err_from_is_err_and}
use Rattle.mig_base.specs.FuseText.{Statement, statement_of}
use Rattle.jed_text.specs.Bodies.{field_said, fields_left, statements_of}
use Rattle.jed_text.specs.Overalls.{overall_with}
use Rattle.jed_text.proofs.OverallLemmas.{overall_on, overall-start, overall-step, overall-stop}
use Rattle.jed_text.proofs.overall.overall_of.Goals as goal

pub loop-field-init : goal.loop-field-init
loop-field-init c =
    ap (λ it. overall_on (record { count = None; default = None }) (map statement_of (fields_left it))) c.into_iter-field-iterator.ensures.into_iter_gives
    ∙ ap (λ fs. overall_on (record { count = None; default = None }) (map statement_of fs)) c.fields-field-items.ensures
    ∙ overall-start (statements_of c.args.body)

pub returns-in_err-overall : goal.returns-in_err-overall
returns-in_err-overall c =
    let p = err_from_is_err_and c.from_residual.result c.from_residual.ensures.1 in
    let overall = c.loop-field.overall in
    let f : Statement = statement_of (field_said c.in-Some.field) in
    rw (p.1, p.2) (
    sym (overall-stop overall c.in_err-overall.field-0.0 f (map statement_of (fields_left c.next.new.self)) (c.in_err-overall.ensures ∙ ap (overall_with overall f.at) c.said.ensures))
    ∙ ap (λ fs. overall_on overall (map statement_of fs)) (sym c.in-Some.ensures.steps)
    ∙ c.loop-field.invariant
    )

pub loop-field-preserved : goal.loop-field-preserved
loop-field-preserved c =
    let overall = c.loop-field.overall in
    let f : Statement = statement_of (field_said c.in-Some.field) in
    overall-step overall c.in_ok-overall.overall f (map statement_of (fields_left c.next.new.self)) (c.in_ok-overall.ensures ∙ ap (overall_with overall f.at) c.said.ensures)
    ∙ ap (λ fs. overall_on overall (map statement_of fs)) (sym c.in-Some.ensures.steps)
    ∙ c.loop-field.invariant
