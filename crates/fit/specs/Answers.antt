-- What the rules come to over a plan.
use Rattle.std.specs.Prelude.{List}
use Rattle.mig_base.specs.declared.plans.Plan.{Plan}
use Rattle.board.specs.Joined.{Joined}
use Rattle.new_board.specs.declared.types.FittedChip.{FittedChip}
use Rattle.plans.specs.FirstOf.{FirstOf, NoneOf}
use Rattle.plans.specs.Breaches.{Rule, RuleGives, IsBreach}
use Rattle.plans.specs.Fitting.{AreFitted}
use Rattle.fit.specs.declared.chip_rules.ChipRules.{ChipRules}
use Rattle.fit.specs.declared.chip_rules.ChipRules.TheVariants.{Breach, Fitted}
use Rattle.fit.specs.declared.FitError.{FitError}
use Rattle.fit.specs.declared.FitError.TheVariants as error

-- a plan breaks none of these rules, and these are its chips with their cells and wires
pub record AreFree (b : Joined) (p : Plan) (rules : List Rule) (built : List FittedChip) : Type 0 where
  pub none : NoneOf (RuleGives b p) rules
  pub fitted : AreFitted b p built

-- the first of these rules that is broken, or the chips with their cells and wires
abbrev pub IsAnswer : Joined → Plan → List Rule → ChipRules → Type 0
IsAnswer b p rules (Breach x) = FirstOf (RuleGives b p) rules x
IsAnswer b p rules (Fitted built) = AreFree b p rules built.items

-- a plan is refused with its breach, or for want of memory
abbrev pub RefusesPlan : Joined → Plan → FitError → Type 0
RefusesPlan b p (error.Breach x) = IsBreach b p x
RefusesPlan b p error.Memory = Unit {0}

-- want of memory
abbrev pub IsWanting : FitError → Type 0
IsWanting (error.Breach x) = ⊥
IsWanting error.Memory = Unit {0}
