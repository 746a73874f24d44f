use Rattle.std.proofs.Common.{List, [], subst}
use Rattle.mig_base.specs.declared.plans.PlanChip.{PlanChip}
use Rattle.plans.specs.FirstOf.{NoneOf, Says, behind}
use Rattle.plans.specs.LineBreaches.{chip_twice}
use Rattle.plan_lines.proofs.RuleSteps.{rules-left}
use Rattle.plan_lines.proofs.rules.first_breach.Goals as goal

pub returns : goal.returns
returns c =
    rules-left c.args.board.now c.args.plan.now c.first_unplaced.result (subst (λ (cs : List PlanChip). NoneOf (Says chip_twice) (behind [] cs)) c.items.ensures c.in_default.ensures)
    c.in_default-first_by_rules.ensures c.first_unplaced.ensures
