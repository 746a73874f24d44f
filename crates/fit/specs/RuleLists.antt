-- The rules on placed units as the code names them.
use Rattle.mig_base.specs.declared.plans.Plan.{Plan}
use Rattle.mig_base.specs.declared.plans.Breach.{Breach}
use Rattle.board.specs.Joined.{Joined}
use Rattle.plans.specs.FirstOf.{Says}
use Rattle.plans.specs.declared.placing.Placing.{Placing}
use Rattle.plans.specs.Placings.{absorbed_units}
use Rattle.plans.specs.UnitBreaches.{wrong_mode, wrong_clock, wrong_phase, GivesConeWide, GivesPrimesOver, GivesReset, GivesEnable}
use Rattle.plans.specs.Breaches.{Rule, WrongMode, WrongClock, WrongPhase, ConeWide, PrimesOver, WrongReset, WrongEnable}
use Rattle.fit.specs.declared.places.PlaceRule.{PlaceRule}
use Rattle.fit.specs.declared.places.PlaceRule.TheVariants as place
use Rattle.fit.specs.declared.breaks.PartRule.{PartRule}
use Rattle.fit.specs.declared.breaks.PartRule.TheVariants as part

-- a rule that asks for no part as one of all rules
abbrev pub rule_of_place : PlaceRule → Rule
rule_of_place place.WrongMode = WrongMode
rule_of_place place.WrongClock = WrongClock
rule_of_place place.WrongPhase = WrongPhase

-- a rule on parts but for the last as one of all rules
abbrev pub rule_of_part : PartRule → Rule
rule_of_part part.ConeWide = ConeWide
rule_of_part part.PrimesOver = PrimesOver
rule_of_part part.WrongReset = WrongReset
rule_of_part part.WrongEnable = WrongEnable

-- what a placed unit gives by a rule that asks for no part
abbrev pub PlaceGives : Joined → Plan → PlaceRule → Placing → Breach → Type 0
PlaceGives b p place.WrongMode x y = Says (wrong_mode b) x y
PlaceGives b p place.WrongClock x y = Says (wrong_clock b p) x y
PlaceGives b p place.WrongPhase x y = Says (wrong_phase b) x y

-- what a placed unit gives by one of them
abbrev pub PartGives : Joined → Plan → PartRule → Placing → Breach → Type 0
PartGives b p part.ConeWide x y = GivesConeWide b (absorbed_units b p) x y
PartGives b p part.PrimesOver x y = GivesPrimesOver b (absorbed_units b p) x y
PartGives b p part.WrongReset x y = GivesReset b p x y
PartGives b p part.WrongEnable x y = GivesEnable b p x y
