use Rattle.std.proofs.Common.{sym, ap, ◌∙◌}
use Rattle.new_board.specs.NewChip.{OldBoard}
use Rattle.fit.specs.Parts.{breaks_made_pin}
use Rattle.fit.proofs.ShareLaws.{pin-breaks, breaks-pin}
use Rattle.fit.proofs.breaks.wants_other_pin.Goals as goal

pub returns-in-Some-clause-yes : goal.returns-in-Some-clause-yes
returns-in-Some-clause-yes c e =
    let b = c.args.reckoned.now.placed.now.board.now in
    let p = c.args.reckoned.now.placed.now.plan.now in
    pin-breaks b p c.args.unit.now c.args.parts.now _ (sym c.uses_pin.ensures ∙ c.if-not-uses_pin.false) c.requires.parts c.in-Some.ensures
    (ap (λ (o : OldBoard). breaks_made_pin o c.args.parts.now.enable c.in-Some.first.now.enable) (sym c.args.reckoned.now.old_is) ∙ sym c.breaks_enable.ensures ∙ e)

pub returns-in-Some-clause-no : goal.returns-in-Some-clause-no
returns-in-Some-clause-no c h =
    let b = c.args.reckoned.now.placed.now.board.now in
    let p = c.args.reckoned.now.placed.now.plan.now in
    c.breaks_enable.ensures ∙ ap (λ (o : OldBoard). breaks_made_pin o c.args.parts.now.enable c.in-Some.first.now.enable) c.args.reckoned.now.old_is ∙ breaks-pin b p c.args.unit.now c.args.parts.now _ c.requires.parts c.in-Some.ensures h
