use Rattle.std.proofs.Common.{sym, ap, ◌∙◌, subst}
use Rattle.plans.specs.Forms.{Room}
use Rattle.forms.specs.declared.attempts.Attempt.{Attempt}
use Rattle.forms.specs.Attempts.{IsAttempt}
use Rattle.forms.specs.Outcomes.{cover_tries}
use Rattle.forms.proofs.CoveredLaws.{inverse-behind}
use Rattle.forms.proofs.logic.inverse_attempt.Goals as goal

pub returns : goal.returns
returns c absorbed unit h fails =
    subst (λ (a : Attempt). IsAttempt c.args.board.now absorbed unit c.args.room.now (cover_tries c.args.room.now.may_invert) a) (sym c.behind.ensures)
    (inverse-behind c.args.board.now absorbed unit c.args.room.now c.room.inside.most c.args.direct c.in_ok-cover.cover c.in_ok-inverse.inverse
    (sym (ap (λ (r : Room). r.may_invert) c.room.view_is) ∙ c.if-not-room.false)
    (sym (ap (λ (r : Room). r.most) c.room.view_is)) (c.in_ok-cover.ensures.covered absorbed _ h) c.in_ok-inverse.ensures fails)
