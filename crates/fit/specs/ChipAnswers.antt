-- What the rules on new chips come to.
use Rattle.std.specs.Prelude.{◌≡◌, ◌⊎◌, List, [], ◌∷◌, map}
use Rattle.mig_base.specs.declared.plans.Plan.{Plan}
use Rattle.mig_base.specs.declared.plans.Breach.{Breach as BreachOf}
use Rattle.board.specs.Joined.{Joined}
use Rattle.new_board.specs.declared.types.FittedChip.{FittedChip}
use Rattle.new_board.specs.NewChip.{NewChip}
use Rattle.plans.specs.declared.placing.Placing.{Placing}
use Rattle.plans.specs.FirstOf.{FirstOf, NoneOf, Says}
use Rattle.plans.specs.Placings.{old}
use Rattle.plans.specs.Breaches.{Rule, NoInput, FullRow, RuleGives}
use Rattle.plans.specs.Fitting.{AreFitted, fitted_chips}
use Rattle.fit.specs.declared.chip_rules.ChipRules.{ChipRules}
use Rattle.fit.specs.declared.chip_rules.ChipRules.TheVariants.{Breach, Fitted}
use Rattle.fit.specs.NewChips.{no_input}
use Rattle.fit.specs.FullRows.{marks_of, full_row}

-- the rules on new chips, in their order
abbrev pub chip_rules : List Rule
chip_rules = NoInput ∷ FullRow ∷ []

-- what a placed unit's full row gives, on these new chips
abbrev pub GivesMarked : Joined → List NewChip → Placing → BreachOf → Type 0
GivesMarked b chips = Says (full_row (map (marks_of (old b)) chips))

-- these new chips and placed units break no rule on chips, and these are the chips with their cells and wires
pub record AreUnbroken (b : Joined) (chips : List NewChip) (placed : List Placing) (built : List FittedChip) : Type 0 where
  pub served : NoneOf (Says (no_input b)) chips
  pub spare : NoneOf (GivesMarked b chips) placed
  pub are : built ≡ fitted_chips b chips

-- of new chips and placed units: the first breach, or the chips with their cells and wires
abbrev pub IsRuled : Joined → List NewChip → List Placing → ChipRules → Type 0
IsRuled b chips placed (Breach x) = FirstOf (Says (no_input b)) chips x ⊎ (NoneOf (Says (no_input b)) chips × FirstOf (GivesMarked b chips) placed x)
IsRuled b chips placed (Fitted built) = AreUnbroken b chips placed built.items

-- a plan breaks no rule on its new chips, and these are its chips with their cells and wires
pub record AreFreeChips (b : Joined) (p : Plan) (built : List FittedChip) : Type 0 where
  pub none : NoneOf (RuleGives b p) chip_rules
  pub fitted : AreFitted b p built

-- the first rule on new chips that is broken, or the chips with their cells and wires
abbrev pub IsChipAnswer : Joined → Plan → ChipRules → Type 0
IsChipAnswer b p (Breach x) = FirstOf (RuleGives b p) chip_rules x
IsChipAnswer b p (Fitted built) = AreFreeChips b p built.items
