use Rattle.plan_lines.proofs.FirstSteps.{FromIndex}
use Rattle.fit.proofs.RuleSteps.{ByPart}
use Rattle.fit.proofs.breaks.first_by.Given as goal

abbrev pub invariant-loop-rule : goal.invariant-loop-rule
invariant-loop-rule l = FromIndex (ByPart l.reckoned.placed.now.board.now l.reckoned.placed.now.plan.now) l.rules l.rule-index
