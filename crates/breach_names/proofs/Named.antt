-- Each rule names what is there.
use Rattle.std.proofs.Common.{ℕ, ◌≡◌, Bool, true, false, List, [], ◌∷◌, Option, Some, None, sym, subst, inl, inr}
use Rattle.std.proofs.lemmas.Option.{same_Some}
use Rattle.mig_base.specs.declared.circuit.Read.{Read}
use Rattle.mig_base.specs.declared.plans.Plan.{Plan}
use Rattle.mig_base.specs.declared.plans.PlanChip.{PlanChip}
use Rattle.mig_base.specs.declared.plans.PlanLine.{PlanLine}
use Rattle.mig_base.specs.declared.plans.PlanLine.TheVariants.{Place, Absorb}
use Rattle.mig_base.specs.declared.plans.Part.{Part}
use Rattle.mig_base.specs.declared.plans.Part.TheVariants as part
use Rattle.mig_base.specs.declared.plans.Breach.{Breach}
use Rattle.mig_base.specs.declared.plans.Breach.TheVariants as breach
use Rattle.board.specs.Joined.{Joined, equations_of}
use Rattle.board.proofs.BoardLaws.{var-variable}
use Rattle.new_board.specs.NewChip.{when}
use Rattle.fit.proofs.NewChipLaws.{unserved-node}
use Rattle.plans.specs.FirstOf.{FirstOf, Says, behind}
use Rattle.plans.specs.declared.placing.Placing.{Placing}
use Rattle.plans.specs.Placings.{old, placings, numbered_units, absorbed_units}
use Rattle.plans.specs.LineBreaches.{chip_twice, unit_unknown, unit_twice, chip_unknown, no_cell, pin_taken, GivesNotAbsorbable, GivesUnplaced}
use Rattle.plans.specs.UnitBreaches.{wrong_mode, wrong_clock, wrong_phase, controls, GivesWidePart, GivesConeWide, GivesPrimesOver, GivesReset, GivesEnable, GivesTermsOver}
use Rattle.plans.specs.ChipBreaches.{GivesNoInput, GivesFullRow}
use Rattle.plans.specs.Breaches.{Rule, ChipTwice, UnitUnknown, UnitTwice, ChipUnknown, NoCell, PinTaken, NotAbsorbable, Unplaced, WrongMode, WrongClock, WrongPhase, ConeWide, PrimesOver, WrongReset, WrongEnable, TermsOver, NoInput, FullRow, all_rules, RuleGives, IsBreach}
use Rattle.breach_names.specs.NamedVariables.{NamesVariable}

-- what each item of a list gives has a property, and so has what the first gives
first-has : {T E : Type 0} (P : E → Type 0) (gives : T → E → Type 0) → ((t : T) (x : E) → gives t x → P x) → (ts : List T) (x : E) → FirstOf gives ts x → P x
first-has P gives each [] x none = absurd none
first-has P gives each (t ∷ ts) x (inl here) = each t x here
first-has P gives each (t ∷ ts) x (inr later) = first-has P gives each ts x later.1

-- what a test says where it passes
when-says : (b : Joined) (passes : Bool) (y x : Breach) → NamesVariable b y → when passes (Some y) ≡ Some x → NamesVariable b x
when-says b true y x named e = subst (NamesVariable b) (same_Some y x e) named
when-says b false y x named e = cc

-- what is named by an equation
by-name : (b : Joined) (y x : Breach) → NamesVariable b y → x ≡ y → NamesVariable b x
by-name b y x named e = subst (NamesVariable b) (sym e) named

chip-unknown-named : (b : Joined) (p : Plan) (l : PlanLine) (x : Breach) → Says (chip_unknown p) l x → NamesVariable b x
chip-unknown-named b p (Place unit chip pin) x e = when-says b _ (breach.ChipUnknown unit chip) x tt e
chip-unknown-named b p (Absorb unit) x e = cc

no-cell-named : (b : Joined) (p : Plan) (l : PlanLine) (x : Breach) → Says (no_cell p) l x → NamesVariable b x
no-cell-named b p (Place unit chip pin) x e = when-says b _ (breach.NoCell unit pin) x tt e
no-cell-named b p (Absorb unit) x e = cc

pin-taken-named : (b : Joined) (l : List PlanLine × PlanLine) (x : Breach) → Says pin_taken l x → NamesVariable b x
pin-taken-named b (before, Place unit chip pin) x e = when-says b _ (breach.PinTaken unit pin) x tt e
pin-taken-named b (before, Absorb unit) x e = cc

not-absorbable-named : (b : Joined) (l : PlanLine) (x : Breach) → GivesNotAbsorbable b l x → NamesVariable b x
not-absorbable-named b (Place unit chip pin) x p = absurd p
not-absorbable-named b (Absorb unit) x p = by-name b (breach.NotAbsorbable unit) x tt p.names

-- what each rule names
rule-named : (b : Joined) (p : Plan) (r : Rule) (x : Breach) → RuleGives b p r x → NamesVariable b x
rule-named b p ChipTwice x f = first-has (NamesVariable b) (Says chip_twice) (λ l y e. when-says b _ (breach.ChipTwice l.1.name) y tt e) (behind [] p.chips) x f
rule-named b p UnitUnknown x f = first-has (NamesVariable b) (Says (unit_unknown b)) (λ l y e. when-says b _ (breach.UnitUnknown _) y tt e) p.lines x f
rule-named b p UnitTwice x f = first-has (NamesVariable b) (Says unit_twice) (λ l y e. when-says b _ (breach.UnitTwice _) y tt e) (behind [] p.lines) x f
rule-named b p ChipUnknown x f = first-has (NamesVariable b) (Says (chip_unknown p)) (chip-unknown-named b p) p.lines x f
rule-named b p NoCell x f = first-has (NamesVariable b) (Says (no_cell p)) (no-cell-named b p) p.lines x f
rule-named b p PinTaken x f = first-has (NamesVariable b) (Says pin_taken) (pin-taken-named b) (behind [] p.lines) x f
rule-named b p NotAbsorbable x f = first-has (NamesVariable b) (GivesNotAbsorbable b) (not-absorbable-named b) p.lines x f
rule-named b p Unplaced x f = first-has (NamesVariable b) (GivesUnplaced b p) (λ u y g. by-name b (breach.Unplaced u.1) y tt g.names) (numbered_units b) x f
rule-named b p WrongMode x f = first-has (NamesVariable b) (Says (wrong_mode b)) (λ z y e. when-says b _ (breach.Mode z.name) y tt e) (placings b p) x f
rule-named b p WrongClock x f = first-has (NamesVariable b) (Says (wrong_clock b p)) (λ z y e. when-says b _ (breach.Clock z.name) y tt e) (placings b p) x f
rule-named b p WrongPhase x f = first-has (NamesVariable b) (Says (wrong_phase b)) (λ z y e. when-says b _ (breach.Phase z.name) y tt e) (placings b p) x f
rule-named b p ConeWide x f = first-has (NamesVariable b) (GivesConeWide b (absorbed_units b p))
    (λ z y g. first-has (NamesVariable b) (GivesWidePart b (absorbed_units b p) z) (λ q w h. by-name b (breach.ConeWide z.name h.count) w tt h.names) (part.Logic ∷ controls) y g) (placings b p) x f
rule-named b p PrimesOver x f = first-has (NamesVariable b) (GivesPrimesOver b (absorbed_units b p)) (λ z y g. by-name b (breach.PrimesOver z.name) y tt g.names) (placings b p) x f
rule-named b p WrongReset x f = first-has (NamesVariable b) (GivesReset b p) (λ z y g. by-name b (breach.Reset z.name) y tt g.names) (placings b p) x f
rule-named b p WrongEnable x f = first-has (NamesVariable b) (GivesEnable b p) (λ z y g. by-name b (breach.Enable z.name) y tt g.names) (placings b p) x f
rule-named b p TermsOver x f = first-has (NamesVariable b) (GivesTermsOver b (absorbed_units b p)) (λ z y g. by-name b (breach.TermsOver z.name g.needed _) y tt g.names) (placings b p) x f
rule-named b p NoInput x f = first-has (NamesVariable b) (GivesNoInput b p)
    (λ c y g. by-name b (breach.NoInput c.name _) y (var-variable b g.variable (unserved-node (old b) g.chip g.variable g.first)) g.names) p.chips x f
rule-named b p FullRow x f = first-has (NamesVariable b) (GivesFullRow b p) (λ z y g. by-name b (breach.FullRow z.name) y tt g.names) (placings b p) x f

pub breach-named : (b : Joined) (p : Plan) (x : Breach) → IsBreach b p x → NamesVariable b x
breach-named b p x f = first-has (NamesVariable b) (RuleGives b p) (rule-named b p) all_rules x f
