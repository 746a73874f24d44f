-- Rules one list behind the other.
use Rattle.std.proofs.Common.{Some, None}
use Rattle.mig_base.specs.declared.plans.Plan.{Plan}
use Rattle.mig_base.specs.declared.plans.Breach.{Breach as BreachOf}
use Rattle.board.specs.Joined.{Joined}
use Rattle.plans.specs.FirstOf.{FirstOf, NoneOf}
use Rattle.plans.specs.Breaches.{RuleGives, line_rules, placed_rules, all_rules}
use Rattle.plan_lines.proofs.FirstSteps.{first-append, first-of-front}
use Rattle.fit.specs.declared.chip_rules.ChipRules.{ChipRules}
use Rattle.fit.specs.declared.chip_rules.ChipRules.TheVariants.{Breach, Fitted}
use Rattle.fit.specs.ChipAnswers.{chip_rules, IsChipAnswer}
use Rattle.fit.specs.UnitAnswers.{unit_rules}
use Rattle.fit.specs.Answers.{IsAnswer}

-- where the rules on placed units are kept, those on new chips are left
pub chips-left : (b : Joined) (p : Plan) (r : ChipRules) → NoneOf (RuleGives b p) unit_rules → IsChipAnswer b p r → IsAnswer b p placed_rules r
chips-left b p (Breach x) none h = first-append (RuleGives b p) unit_rules chip_rules none (Some x) h
chips-left b p (Fitted built) none h = record { none = first-append (RuleGives b p) unit_rules chip_rules none None h.none; fitted = h.fitted }

-- where the rules on lines are kept, the others are left
pub placed-left : (b : Joined) (p : Plan) (r : ChipRules) → NoneOf (RuleGives b p) line_rules → IsAnswer b p placed_rules r → IsAnswer b p all_rules r
placed-left b p (Breach x) none h = first-append (RuleGives b p) line_rules placed_rules none (Some x) h
placed-left b p (Fitted built) none h = record { none = first-append (RuleGives b p) line_rules placed_rules none None h.none; fitted = h.fitted }

pub unit-first : (b : Joined) (p : Plan) (x : BreachOf) → FirstOf (RuleGives b p) unit_rules x → FirstOf (RuleGives b p) placed_rules x
unit-first b p x h = first-of-front (RuleGives b p) unit_rules chip_rules x h

pub line-first : (b : Joined) (p : Plan) (x : BreachOf) → FirstOf (RuleGives b p) line_rules x → FirstOf (RuleGives b p) all_rules x
line-first b p x h = first-of-front (RuleGives b p) line_rules placed_rules x h
