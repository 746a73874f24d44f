use Rattle.plans.proofs.BreachLaws.{none-unbroken, unbroken-none}
use Rattle.plans.proofs.no_breach_breaks_no_rule.Goals as goal

pub returns-clause-unbroken : goal.returns-clause-unbroken
returns-clause-unbroken c = none-unbroken

pub returns-clause-free : goal.returns-clause-free
returns-clause-free c = unbroken-none
