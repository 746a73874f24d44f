use Rattle.plans.specs.Breaches.{RuleGives}
use Rattle.plan_lines.specs.Statements.{rule_of}
use Rattle.plan_lines.proofs.FirstSteps.{FromIndex}
use Rattle.plan_lines.proofs.rules.first_by_rules.Given as goal

abbrev pub invariant-loop-rule : goal.invariant-loop-rule
invariant-loop-rule l = FromIndex (λ r x. RuleGives l.board l.plan (rule_of r) x) l.rules l.rule-index
