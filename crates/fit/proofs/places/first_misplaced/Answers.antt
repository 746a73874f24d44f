use Rattle.plan_lines.proofs.FirstSteps.{from-next, from-here, from-end}
use Rattle.fit.specs.RuleLists.{PlaceGives}
use Rattle.fit.proofs.places.first_misplaced.Goals as goal

pub loop-unit-preserved : goal.loop-unit-preserved
loop-unit-preserved c =
    from-next (PlaceGives c.args.placed.now.board.now c.args.placed.now.plan.now c.args.rule) c.args.units.now c.loop-unit.unit-index c.unit-item.result c.loop-unit-test.true c.unit-item.is c.in_default.ensures c.loop-unit.invariant

pub returns-in-Some : goal.returns-in-Some
returns-in-Some c =
    from-here (PlaceGives c.args.placed.now.board.now c.args.placed.now.plan.now c.args.rule) c.args.units.now c.loop-unit.unit-index c.unit-item.result c.in-Some.breach c.loop-unit-test.true c.unit-item.is c.in-Some.ensures c.loop-unit.invariant

pub returns : goal.returns
returns c = from-end (PlaceGives c.args.placed.now.board.now c.args.placed.now.plan.now c.args.rule) c.args.units.now c.loop-unit.unit-index c.loop-unit-test.false c.loop-unit.invariant
