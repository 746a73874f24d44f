use Rattle.plan_lines.proofs.FirstSteps.{FromIndex}
use Rattle.fit.proofs.RuleSteps.{ByPlace}
use Rattle.fit.proofs.places.first_by.Given as goal

abbrev pub invariant-loop-rule : goal.invariant-loop-rule
invariant-loop-rule l = FromIndex (ByPlace l.placed.board.now l.placed.plan.now) l.rules l.rule-index
