-- The rules on lines, one behind the other.
use Rattle.std.proofs.Common.{ℕ, ◌≡◌, ◌+◌, ◌<◌, ◌≤◌, List, [], ◌∷◌, ◌++◌, length, get_or, Option, Some, None, inl, arith}
use Rattle.mig_base.specs.declared.plans.Plan.{Plan}
use Rattle.mig_base.specs.declared.plans.Breach.{Breach}
use Rattle.board.specs.declared.Unit.{Unit as NamedUnit}
use Rattle.board.specs.Joined.{Joined}
use Rattle.board.specs.UnitLists.{units_on}
use Rattle.plans.specs.FirstOf.{NoneOf, Gives, GivesFirst, Says, behind}
use Rattle.plans.specs.LineBreaches.{chip_twice, unit_unknown, chip_unknown, no_cell, GivesNotAbsorbable, GivesUnplaced}
use Rattle.plans.specs.Placings.{numbered_units}
use Rattle.plans.specs.Breaches.{Rule, ChipTwice, UnitUnknown, UnitTwice, ChipUnknown, NoCell, PinTaken, NotAbsorbable, Unplaced, line_rules, RuleGives}
use Rattle.plan_lines.specs.declared.lines.LineRule.{LineRule}
use Rattle.plan_lines.specs.declared.lines.LineRule.TheVariants as line
use Rattle.plan_lines.specs.Statements.{rule_of, LineGives}
use Rattle.plan_lines.proofs.FirstSteps.{first-next, first-append, gives-map, gives-alone, FromIndex, from-next, from-here, from-end}
use Rattle.plan_lines.proofs.Names.{length-units-named, unit-at}

-- what a rule on lines gives
abbrev pub ByRule : Joined → Plan → LineRule → Breach → Type 0
ByRule b p r x = RuleGives b p (rule_of r) x

-- the first line that breaks it
pub rule-first : (b : Joined) (p : Plan) (r : LineRule) (o : Option Breach) → GivesFirst (LineGives b p r) (behind [] p.lines) o → Gives (ByRule b p) r o
rule-first b p line.UnitUnknown None h = gives-alone (Says (unit_unknown b)) p.lines None h
rule-first b p line.UnitUnknown (Some x) h = gives-alone (Says (unit_unknown b)) p.lines (Some x) h
rule-first b p line.UnitTwice None h = h
rule-first b p line.UnitTwice (Some x) h = h
rule-first b p line.ChipUnknown None h = gives-alone (Says (chip_unknown p)) p.lines None h
rule-first b p line.ChipUnknown (Some x) h = gives-alone (Says (chip_unknown p)) p.lines (Some x) h
rule-first b p line.NoCell None h = gives-alone (Says (no_cell p)) p.lines None h
rule-first b p line.NoCell (Some x) h = gives-alone (Says (no_cell p)) p.lines (Some x) h
rule-first b p line.PinTaken None h = h
rule-first b p line.PinTaken (Some x) h = h
rule-first b p line.NotAbsorbable None h = gives-alone (GivesNotAbsorbable b) p.lines None h
rule-first b p line.NotAbsorbable (Some x) h = gives-alone (GivesNotAbsorbable b) p.lines (Some x) h

-- the rules on place and absorb lines
abbrev pub middle_rules : List LineRule
middle_rules = line.UnitUnknown ∷ line.UnitTwice ∷ line.ChipUnknown ∷ line.NoCell ∷ line.PinTaken ∷ line.NotAbsorbable ∷ []

abbrev middle : List Rule
middle = UnitUnknown ∷ UnitTwice ∷ ChipUnknown ∷ NoCell ∷ PinTaken ∷ NotAbsorbable ∷ []

last-rule : (b : Joined) (p : Plan) (o : Option Breach) → GivesFirst (GivesUnplaced b p) (numbered_units b) o → GivesFirst (RuleGives b p) (Unplaced ∷ []) o
last-rule b p None h = first-next (RuleGives b p) Unplaced [] h None (λ x k. k)
last-rule b p (Some x) h = inl h

-- where no chip line and no other line breaks a rule, the units are left
pub rules-left : (b : Joined) (p : Plan) (o : Option Breach) → NoneOf (Says chip_twice) (behind [] p.chips) → NoneOf (ByRule b p) middle_rules →
    GivesFirst (GivesUnplaced b p) (numbered_units b) o → GivesFirst (RuleGives b p) line_rules o
rules-left b p o chips lines units =
    first-next (RuleGives b p) ChipTwice (middle ++ Unplaced ∷ []) chips o
    (first-append (RuleGives b p) middle (Unplaced ∷ []) (gives-map rule_of (RuleGives b p) middle_rules None lines) o (last-rule b p o units))

-- a unit among the units by number and name
pub unit-next : (b : Joined) (p : Plan) (units : List NamedUnit) (i : ℕ) (unit : NamedUnit) → units ≡ units_on b.net b.chips → i < length units → unit ≡ get_or units i unit →
    Gives (GivesUnplaced b p) (i, unit.name) None → FromIndex (GivesUnplaced b p) (numbered_units b) i → FromIndex (GivesUnplaced b p) (numbered_units b) (i + 1)
unit-next b p units i unit e lt is none go =
    let long : length (numbered_units b) ≡ length units = length-units-named b units e in
    from-next (GivesUnplaced b p) (numbered_units b) i (i, unit.name) (omega arith) (unit-at b units i unit e lt is) none go

pub unit-here : (b : Joined) (p : Plan) (units : List NamedUnit) (i : ℕ) (unit : NamedUnit) (x : Breach) → units ≡ units_on b.net b.chips → i < length units → unit ≡ get_or units i unit →
    Gives (GivesUnplaced b p) (i, unit.name) (Some x) → FromIndex (GivesUnplaced b p) (numbered_units b) i → GivesFirst (GivesUnplaced b p) (numbered_units b) (Some x)
unit-here b p units i unit x e lt is some go =
    let long : length (numbered_units b) ≡ length units = length-units-named b units e in
    from-here (GivesUnplaced b p) (numbered_units b) i (i, unit.name) x (omega arith) (unit-at b units i unit e lt is) some go

pub units-end : (b : Joined) (p : Plan) (units : List NamedUnit) (i : ℕ) → units ≡ units_on b.net b.chips → length units ≤ i → FromIndex (GivesUnplaced b p) (numbered_units b) i → GivesFirst (GivesUnplaced b p) (numbered_units b) None
units-end b p units i e done go =
    let long : length (numbered_units b) ≡ length units = length-units-named b units e in
    from-end (GivesUnplaced b p) (numbered_units b) i (omega arith) go
