use Rattle.std.proofs.Common.{None, Some}
use Rattle.plan_lines.proofs.FirstSteps.{from-next, from-here, from-end, same-item}
use Rattle.plan_lines.proofs.RuleSteps.{ByRule, rule-first}
use Rattle.plan_lines.proofs.rules.first_by_rules.Goals as goal

pub loop-rule-preserved : goal.loop-rule-preserved
loop-rule-preserved c =
    from-next (ByRule c.args.board.now c.args.plan.now) c.args.rules.now c.loop-rule.rule-index _ c.loop-rule-test.true (same-item c.args.rules.now c.loop-rule.rule-index _ _ c.loop-rule-test.true)
    (rule-first c.args.board.now c.args.plan.now _ None c.in_default.ensures) c.loop-rule.invariant

pub returns-in-Some : goal.returns-in-Some
returns-in-Some c =
    from-here (ByRule c.args.board.now c.args.plan.now) c.args.rules.now c.loop-rule.rule-index _ c.in-Some.breach c.loop-rule-test.true (same-item c.args.rules.now c.loop-rule.rule-index _ _ c.loop-rule-test.true)
    (rule-first c.args.board.now c.args.plan.now _ (Some c.in-Some.breach) c.in-Some.ensures) c.loop-rule.invariant

pub returns : goal.returns
returns c = from-end (ByRule c.args.board.now c.args.plan.now) c.args.rules.now c.loop-rule.rule-index c.loop-rule-test.false c.loop-rule.invariant
