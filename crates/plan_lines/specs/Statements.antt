-- The rules on place and absorb lines, line by line.
use Rattle.std.specs.Prelude.{List}
use Rattle.mig_base.specs.declared.plans.Plan.{Plan}
use Rattle.mig_base.specs.declared.plans.PlanLine.{PlanLine}
use Rattle.mig_base.specs.declared.plans.Breach.{Breach}
use Rattle.board.specs.Joined.{Joined}
use Rattle.plans.specs.FirstOf.{Says}
use Rattle.plans.specs.LineBreaches.{unit_unknown, unit_twice, chip_unknown, no_cell, pin_taken, GivesNotAbsorbable}
use Rattle.plans.specs.Breaches.{Rule, UnitUnknown, UnitTwice, ChipUnknown, NoCell, PinTaken, NotAbsorbable}
use Rattle.plan_lines.specs.declared.lines.LineRule.{LineRule}
use Rattle.plan_lines.specs.declared.lines.LineRule.TheVariants as line

-- a rule on lines as one of all rules
abbrev pub rule_of : LineRule → Rule
rule_of line.UnitUnknown = UnitUnknown
rule_of line.UnitTwice = UnitTwice
rule_of line.ChipUnknown = ChipUnknown
rule_of line.NoCell = NoCell
rule_of line.PinTaken = PinTaken
rule_of line.NotAbsorbable = NotAbsorbable

-- what a line behind some others gives by a rule
abbrev pub LineGives : Joined → Plan → LineRule → List PlanLine × PlanLine → Breach → Type 0
LineGives b p line.UnitUnknown q x = Says (unit_unknown b) q.1 x
LineGives b p line.UnitTwice q x = Says unit_twice q x
LineGives b p line.ChipUnknown q x = Says (chip_unknown p) q.1 x
LineGives b p line.NoCell q x = Says (no_cell p) q.1 x
LineGives b p line.PinTaken q x = Says pin_taken q x
LineGives b p line.NotAbsorbable q x = GivesNotAbsorbable b q.1 x
