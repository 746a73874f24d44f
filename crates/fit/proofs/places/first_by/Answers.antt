use Rattle.std.proofs.Common.{None, Some}
use Rattle.plan_lines.proofs.FirstSteps.{from-next, from-here, from-end, same-item}
use Rattle.fit.proofs.RuleSteps.{ByPlace, place-first}
use Rattle.fit.proofs.places.first_by.Goals as goal

pub loop-rule-preserved : goal.loop-rule-preserved
loop-rule-preserved c =
    from-next (ByPlace c.args.placed.now.board.now c.args.placed.now.plan.now) c.args.rules.now c.loop-rule.rule-index _ c.loop-rule-test.true (same-item c.args.rules.now c.loop-rule.rule-index _ _ c.loop-rule-test.true)
    (place-first c.args.placed.now.board.now c.args.placed.now.plan.now c.args.placed.now.units.now _ None c.args.placed.now.are c.in_default.ensures) c.loop-rule.invariant

pub returns-in-Some : goal.returns-in-Some
returns-in-Some c =
    from-here (ByPlace c.args.placed.now.board.now c.args.placed.now.plan.now) c.args.rules.now c.loop-rule.rule-index _ c.in-Some.breach c.loop-rule-test.true
    (same-item c.args.rules.now c.loop-rule.rule-index _ _ c.loop-rule-test.true)
    (place-first c.args.placed.now.board.now c.args.placed.now.plan.now c.args.placed.now.units.now _ (Some c.in-Some.breach) c.args.placed.now.are c.in-Some.ensures) c.loop-rule.invariant

pub returns : goal.returns
returns c = from-end (ByPlace c.args.placed.now.board.now c.args.placed.now.plan.now) c.args.rules.now c.loop-rule.rule-index c.loop-rule-test.false c.loop-rule.invariant
