use Rattle.std.proofs.Common.{Option, Some, sym, ap, ◌∙◌, subst}
use Rattle.board.specs.Joined.{equations_of}
use Rattle.plans.specs.Forms.{Products, read_absorbed}
use Rattle.forms.specs.declared.attempts.Attempt.{Attempt}
use Rattle.forms.specs.Outcomes.{IsOldAttempt}
use Rattle.forms.proofs.CoveredLaws.{old-fits}
use Rattle.forms.proofs.logic.form_of.Goals as goal

pub covered_form-requires-in-Some-Fails-clause-old : goal.covered_form-requires-in-Some-Fails-clause-old
covered_form-requires-in-Some-Fails-clause-old c =
    let made = subst (λ (o : Option Attempt). IsOldAttempt c.args.absorbed.now.board.now c.args.unit c.args.room.now o) (c.in-Some-Fails.is ∙ ap (λ (a : Attempt). Some a) c.in-Some-Fails.field-0-is) c.in_ok-old_attempt.ensures in
    (made.0 c.args.absorbed.now.units.now, made.1)

pub returns-in-Some-Fits : goal.returns-in-Some-Fits
returns-in-Some-Fits c =
    let b = c.args.absorbed.now.board.now in
    let absorbed = c.args.absorbed.now.units.now in
    let made = subst (λ (o : Option Attempt). IsOldAttempt b c.args.unit c.args.room.now o) (c.in-Some-Fits.is ∙ ap (λ (a : Attempt). Some a) c.in-Some-Fits.field-0-is) c.in_ok-old_attempt.ensures in
    let reads = ap (λ (ps : Products). read_absorbed (equations_of b) absorbed ps) (sym (c.items.ensures ∙ c.in_ok-products.ensures)) ∙ sym c.is_read_by.ensures ∙ c.if-is_read_by.false in
    old-fits b absorbed c.args.unit c.args.room.now c.in-Some-Fits.low c.in-Some-Fits.terms reads made
