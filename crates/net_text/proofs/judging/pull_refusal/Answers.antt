use Rattle.std.proofs.Common.{ap, ◌∙◌, sym, true, false, refl}
use Rattle.std.specs.Prelude.{is_none, not}
use Rattle.net_text.proofs.Refusals.{pull-refused}
use Rattle.net_text.proofs.judging.pull_refusal.Goals as goal

pub returns-then-any_first_version : goal.returns-then-any_first_version
returns-then-any_first_version c = sym (pull-refused c.args.n c.args.before.now c.args.nets.now c.args.net.now true _ _ _ (sym c.any_first_version.ensures ∙ c.if-any_first_version.true) refl refl refl)

pub returns-then-is_none : goal.returns-then-is_none
returns-then-is_none c =
    sym (pull-refused c.args.n c.args.before.now c.args.nets.now c.args.net.now false true _ _ (sym c.any_first_version.ensures ∙ c.if-any_first_version.false)
    (ap is_none (sym c.place.ensures) ∙ ap not (c.is_none.ensures ∙ ap not c.if-is_none.true)) refl refl)

pub returns-then-any_pulls : goal.returns-then-any_pulls
returns-then-any_pulls c =
    sym (pull-refused c.args.n c.args.before.now c.args.nets.now c.args.net.now false false true _ (sym c.any_first_version.ensures ∙ c.if-any_first_version.false)
    (ap is_none (sym c.place.ensures) ∙ ap not (c.is_none.ensures ∙ ap not c.if-is_none.false)) (sym c.any_pulls.ensures ∙ c.if-any_pulls.true) refl)

pub returns : goal.returns
returns c =
    c.refuse.ensures
    ∙ sym (pull-refused c.args.n c.args.before.now c.args.nets.now c.args.net.now false false false c.cant_pull.result (sym c.any_first_version.ensures ∙ c.if-any_first_version.false)
    (ap is_none (sym c.place.ensures) ∙ ap not (c.is_none.ensures ∙ ap not c.if-is_none.false)) (sym c.any_pulls.ensures ∙ c.if-any_pulls.false) (sym c.cant_pull.ensures))
