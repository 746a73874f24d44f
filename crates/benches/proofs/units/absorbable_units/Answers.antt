use Rattle.std.proofs.Common.{◌∙◌, ap}
use Rattle.benches.proofs.Rising.{chosen_more, chosen_stays}
use Rattle.benches.proofs.units.absorbable_units.Goals as goal
use Rattle.benches.proofs.units.absorbable_units.Goals.{then-absorbable+in_ok-push, else-absorbable}

pub loop-unit-preserved : goal.loop-unit-preserved
loop-unit-preserved c =
    let b = c.args.board.now in
    let n = c.loop-unit.unit in
    let old = c.loop-unit.absorbed.items in
    let new = c.if-absorbable.absorbed.items in
    elim c.if-absorbable.branch [
      | then-absorbable+in_ok-push w ↦ chosen_more b n old new (ap (λ v. v.items) w.absorbed-is ∙ w.in_ok-push.ensures.items) c.loop-unit.invariant (c.absorbable.ensures.yes w.if-absorbable.true)
      | else-absorbable w ↦ chosen_stays b n old new (ap (λ v. v.items) w.absorbed-is) c.loop-unit.invariant
    ]
