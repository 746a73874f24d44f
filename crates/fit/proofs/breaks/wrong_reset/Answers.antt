use Rattle.std.proofs.Common.{Bool, ◌||◌, sym, ap, ◌∙◌}
use Rattle.fit.specs.Parts.{breaks_made}
use Rattle.fit.proofs.ShareLaws.{reset-gives, reset-free}
use Rattle.fit.proofs.breaks.wrong_reset.Goals as goal

pub returns-then-breaks_rows : goal.returns-then-breaks_rows
returns-then-breaks_rows c =
    let b = c.args.reckoned.now.placed.now.board.now in
    let p = c.args.reckoned.now.placed.now.plan.now in
    reset-gives b p c.args.unit.now c.args.parts.now _ (sym c.is_registered.ensures ∙ c.if-not-is_registered.false) c.requires.parts c.in_ok-first.ensures
    (ap (λ (q : Bool). breaks_made q c.args.parts.now.reset c.in_ok-first.first.now.reset || breaks_made q c.args.parts.now.preset c.in_ok-first.first.now.preset) (sym c.is_22.ensures) ∙ sym c.breaks_rows.ensures ∙ c.if-breaks_rows.true)

pub returns-else-breaks_rows : goal.returns-else-breaks_rows
returns-else-breaks_rows c =
    let b = c.args.reckoned.now.placed.now.board.now in
    let p = c.args.reckoned.now.placed.now.plan.now in
    reset-free b p c.args.unit.now c.args.parts.now _ c.requires.parts c.in_ok-first.ensures
    (ap (λ (q : Bool). breaks_made q c.args.parts.now.reset c.in_ok-first.first.now.reset || breaks_made q c.args.parts.now.preset c.in_ok-first.first.now.preset) (sym c.is_22.ensures) ∙ sym c.breaks_rows.ensures ∙ c.if-breaks_rows.false)
