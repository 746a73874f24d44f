-- The breach of a plan: what the first rule that it breaks names.
use Rattle.std.specs.Prelude.{List, [], ◌∷◌, ◌++◌}
use Rattle.mig_base.specs.declared.plans.Plan.{Plan}
use Rattle.mig_base.specs.declared.plans.Breach.{Breach}
use Rattle.board.specs.Joined.{Joined}
use Rattle.plans.specs.FirstOf.{FirstOf, NoneOf, Says, behind}
use Rattle.plans.specs.Placings.{numbered_units, placings, absorbed_units}
use Rattle.plans.specs.LineBreaches.{chip_twice, unit_unknown, unit_twice, chip_unknown, no_cell, pin_taken, GivesNotAbsorbable, GivesUnplaced}
use Rattle.plans.specs.UnitBreaches.{wrong_mode, wrong_clock, wrong_phase, GivesConeWide, GivesPrimesOver, GivesReset, GivesEnable, GivesTermsOver}
use Rattle.plans.specs.ChipBreaches.{GivesNoInput, GivesFullRow}

-- the eighteen rules
pub data Rule : Type 0 where
  ChipTwice : Rule
  UnitUnknown : Rule
  UnitTwice : Rule
  ChipUnknown : Rule
  NoCell : Rule
  PinTaken : Rule
  NotAbsorbable : Rule
  Unplaced : Rule
  WrongMode : Rule
  WrongClock : Rule
  WrongPhase : Rule
  ConeWide : Rule
  PrimesOver : Rule
  WrongReset : Rule
  WrongEnable : Rule
  TermsOver : Rule
  NoInput : Rule
  FullRow : Rule

-- the rules on lines and on units that no line names, in their order
abbrev pub line_rules : List Rule
line_rules = ChipTwice ∷ UnitUnknown ∷ UnitTwice ∷ ChipUnknown ∷ NoCell ∷ PinTaken ∷ NotAbsorbable ∷ Unplaced ∷ []

-- the rules on placed units and new chips
abbrev pub placed_rules : List Rule
placed_rules = WrongMode ∷ WrongClock ∷ WrongPhase ∷ ConeWide ∷ PrimesOver ∷ WrongReset ∷ WrongEnable ∷ TermsOver ∷ NoInput ∷ FullRow ∷ []

-- in their order
abbrev pub all_rules : List Rule
all_rules = line_rules ++ placed_rules

-- what a rule names: the first chip line, line, unit or chip that breaks it
abbrev pub RuleGives : Joined → Plan → Rule → Breach → Type 0
RuleGives b p ChipTwice x = FirstOf (Says chip_twice) (behind [] p.chips) x
RuleGives b p UnitUnknown x = FirstOf (Says (unit_unknown b)) p.lines x
RuleGives b p UnitTwice x = FirstOf (Says unit_twice) (behind [] p.lines) x
RuleGives b p ChipUnknown x = FirstOf (Says (chip_unknown p)) p.lines x
RuleGives b p NoCell x = FirstOf (Says (no_cell p)) p.lines x
RuleGives b p PinTaken x = FirstOf (Says pin_taken) (behind [] p.lines) x
RuleGives b p NotAbsorbable x = FirstOf (GivesNotAbsorbable b) p.lines x
RuleGives b p Unplaced x = FirstOf (GivesUnplaced b p) (numbered_units b) x
RuleGives b p WrongMode x = FirstOf (Says (wrong_mode b)) (placings b p) x
RuleGives b p WrongClock x = FirstOf (Says (wrong_clock b p)) (placings b p) x
RuleGives b p WrongPhase x = FirstOf (Says (wrong_phase b)) (placings b p) x
RuleGives b p ConeWide x = FirstOf (GivesConeWide b (absorbed_units b p)) (placings b p) x
RuleGives b p PrimesOver x = FirstOf (GivesPrimesOver b (absorbed_units b p)) (placings b p) x
RuleGives b p WrongReset x = FirstOf (GivesReset b p) (placings b p) x
RuleGives b p WrongEnable x = FirstOf (GivesEnable b p) (placings b p) x
RuleGives b p TermsOver x = FirstOf (GivesTermsOver b (absorbed_units b p)) (placings b p) x
RuleGives b p NoInput x = FirstOf (GivesNoInput b p) p.chips x
RuleGives b p FullRow x = FirstOf (GivesFullRow b p) (placings b p) x

-- the breach of a plan: what the first rule that is broken names
abbrev pub IsBreach : Joined → Plan → Breach → Type 0
IsBreach b p x = FirstOf (RuleGives b p) all_rules x

-- a plan without breach
abbrev pub HasNoBreach : Joined → Plan → Type 0
HasNoBreach b p = NoneOf (RuleGives b p) all_rules

-- a plan with one
abbrev pub HasBreach : Joined → Plan → Type 0
HasBreach b p = (x : Breach) × IsBreach b p x
