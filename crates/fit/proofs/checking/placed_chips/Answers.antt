use Rattle.std.proofs.Common.{sym, subst, ◌∙◌}
use Rattle.joiner.specs.AbsorbedNets.{AreAbsorbable}
use Rattle.fit.proofs.Absorbables.{absorbed-absorbable}
use Rattle.fit.proofs.checking.placed_chips.Goals as goal

pub unit_breach-requires-clause-absorbable : goal.unit_breach-requires-clause-absorbable
unit_breach-requires-clause-absorbable c =
    subst (AreAbsorbable c.args.board.now) (sym (c.as_slice-2.ensures.value ∙ c.in_ok-absorbed.ensures)) (absorbed-absorbable c.args.board.now c.args.plan.now c.requires.given c.requires.lines)
