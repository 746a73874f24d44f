-- What the rules on placed units and their parts come to.
use Rattle.std.specs.Prelude.{List, [], ◌∷◌}
use Rattle.mig_base.specs.declared.plans.Plan.{Plan}
use Rattle.board.specs.Joined.{Joined}
use Rattle.new_board.specs.declared.types.PlacedUnit.{PlacedUnit}
use Rattle.plans.specs.FirstOf.{FirstOf, NoneOf, AreEach}
use Rattle.plans.specs.Placings.{placings, absorbed_units}
use Rattle.plans.specs.Forms.{AreRows}
use Rattle.plans.specs.Breaches.{Rule, WrongMode, WrongClock, WrongPhase, ConeWide, PrimesOver, WrongReset, WrongEnable, TermsOver, RuleGives}
use Rattle.fit.specs.declared.unit_rules.UnitRules.{UnitRules}
use Rattle.fit.specs.declared.unit_rules.UnitRules.TheVariants.{Breach, Rows}

-- the rules on placed units that ask for no part of them
abbrev pub place_rules : List Rule
place_rules = WrongMode ∷ WrongClock ∷ WrongPhase ∷ []

-- the rules on their parts
abbrev pub part_rules : List Rule
part_rules = ConeWide ∷ PrimesOver ∷ WrongReset ∷ WrongEnable ∷ TermsOver ∷ []

-- the rules on placed units, in their order
abbrev pub unit_rules : List Rule
unit_rules = WrongMode ∷ WrongClock ∷ WrongPhase ∷ ConeWide ∷ PrimesOver ∷ WrongReset ∷ WrongEnable ∷ TermsOver ∷ []

-- no rule on placed units is broken, and these are their rows
pub record AreFreeRows (b : Joined) (p : Plan) (rows : List PlacedUnit) : Type 0 where
  pub none : NoneOf (RuleGives b p) unit_rules
  pub are : AreEach (AreRows b (absorbed_units b p)) (placings b p) rows

-- the first of these rules that is broken, or the rows of all placed units
abbrev pub IsUnitAnswer : Joined → Plan → UnitRules → Type 0
IsUnitAnswer b p (Breach x) = FirstOf (RuleGives b p) unit_rules x
IsUnitAnswer b p (Rows rows) = AreFreeRows b p rows.items
