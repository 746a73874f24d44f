use Rattle.std.proofs.Common.{subst}
use Rattle.plans.specs.FirstOf.{GivesFirst}
use Rattle.plans.specs.Breaches.{RuleGives}
use Rattle.fit.specs.declared.placed.Placed.{Placed}
use Rattle.fit.specs.UnitAnswers.{part_rules}
use Rattle.fit.proofs.breaks.broken_part.Goals as goal

pub returns : goal.returns
returns c = subst (λ (q : Placed). GivesFirst (RuleGives q.board.now q.plan.now) part_rules c.first_by_parts.result) c.new-reckoned.ensures.placed c.first_by_parts.ensures
