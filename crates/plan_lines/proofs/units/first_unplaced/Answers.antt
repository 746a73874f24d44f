use Rattle.plan_lines.proofs.RuleSteps.{unit-next, unit-here, units-end}
use Rattle.plan_lines.proofs.units.first_unplaced.Goals as goal

pub loop-number-preserved : goal.loop-number-preserved
loop-number-preserved c =
    unit-next c.args.board.now c.args.plan.now c.units-unit-items.result.now c.loop-number.number c.unit-item.result c.units-unit-items.ensures.units c.loop-number-test.true c.unit-item.is
    c.in_default.ensures c.loop-number.invariant

pub returns-in-Some : goal.returns-in-Some
returns-in-Some c =
    unit-here c.args.board.now c.args.plan.now c.units-unit-items.result.now c.loop-number.number c.unit-item.result c.in-Some.breach c.units-unit-items.ensures.units c.loop-number-test.true c.unit-item.is
    c.in-Some.ensures c.loop-number.invariant

pub returns : goal.returns
returns c = units-end c.args.board.now c.args.plan.now c.units-unit-items.result.now c.loop-number.number c.units-unit-items.ensures.units c.loop-number-test.false c.loop-number.invariant
