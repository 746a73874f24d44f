use Rattle.plan_lines.proofs.PlacedSteps.{placed-more, placed-all}
use Rattle.plan_lines.proofs.placed.placings.Goals as goal

pub loop-number-preserved : goal.loop-number-preserved
loop-number-preserved c =
    placed-more c.args.board.now c.args.plan.now c.units-units.result.now c.loop-number.number c.index-units-number.result _ _ _ c.units-units.ensures.units c.loop-number-test.true c.index-units-number.is
    c.placing_of.ensures c.in_ok-keep_placed.ensures c.loop-number.invariant

pub returns : goal.returns
returns c = placed-all c.args.board.now c.args.plan.now c.units-units.result.now c.loop-number.number _ c.units-units.ensures.units c.loop-number-test.false c.loop-number.invariant
