use Rattle.std.proofs.Common.{false, sym, ap, subst}
use Rattle.mig_base.specs.declared.plans.Part.TheVariants as part
use Rattle.joiner.specs.Joined.{unit_part}
use Rattle.plans.specs.Forms.{Room}
use Rattle.forms.specs.declared.attempts.Attempt.{Attempt}
use Rattle.forms.specs.Attempts.{IsOffering}
use Rattle.forms.proofs.CoveredLaws.{ok-map, direct-attempt}
use Rattle.forms.proofs.logic.cover_attempt.Goals as goal

pub inverse_attempt-requires : goal.inverse_attempt-requires
inverse_attempt-requires c = (c.requires.0, c.requires.1, c.cover_of.ensures.narrow _ _ c.requires.2)

pub returns-in-Fails : goal.returns-in-Fails
returns-in-Fails c = ok-map _ _ c.inverse_attempt.result (λ made k absorbed unit h.
    k absorbed unit (c.cover_of.ensures.narrow absorbed (unit_part c.args.board.now unit part.Logic) h)
    (direct-attempt c.args.board.now absorbed unit c.args.room.now c.room.inside.most c.in_ok-cover.cover _ (sym (ap (λ (r : Room). r.most) c.room.view_is))
    (c.in_ok-cover.ensures.covered absorbed (unit_part c.args.board.now unit part.Logic) h) (subst (λ (a : Attempt). IsOffering false c.in_ok-cover.cover c.room.inside.most a) c.in-Fails.is c.in_ok-low.ensures))) c.inverse_attempt.ensures
