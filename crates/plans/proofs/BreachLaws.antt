-- A plan has one breach at most, and none exactly where it breaks no rule.
use Rattle.std.proofs.Common.{ℕ, ◌≡◌, ◌≤◌, List, [], ◌∷◌, length, sym, ap, ◌∙◌, subst, arith, refl, inl, inr}
use Rattle.std.proofs.lemmas.Option.{same_Some}
use Rattle.mig_base.specs.declared.circuit.Read.{Read}
use Rattle.mig_base.specs.declared.plans.Plan.{Plan}
use Rattle.mig_base.specs.declared.plans.PlanLine.TheVariants.{Place, Absorb}
use Rattle.mig_base.specs.declared.plans.Part.TheVariants as part
use Rattle.mig_base.specs.declared.plans.Breach.{Breach}
use Rattle.mig_base.specs.declared.plans.Breach.TheVariants as breach
use Rattle.mig_base.specs.Among.{Among}
use Rattle.board.specs.Joined.{Joined}
use Rattle.board.specs.Variables.{var_of}
use Rattle.joiner.specs.Joined.{Inverted, unit_part}
use Rattle.joiner.specs.JoinedPart.{IsWide}
use Rattle.new_board.specs.InputPins.{first_unserved}
use Rattle.plans.specs.FirstOf.{Says, behind}
use Rattle.plans.specs.declared.placing.Placing.{Placing}
use Rattle.plans.specs.Placings.{old, placings, numbered_units, absorbed_units}
use Rattle.plans.specs.Forms.{Room, room_of}
use Rattle.plans.specs.LineBreaches.{chip_twice, unit_unknown, unit_twice, chip_unknown, no_cell, pin_taken, GivesNotAbsorbable, GivesUnplaced}
use Rattle.plans.specs.UnitBreaches.{wrong_mode, wrong_clock, wrong_phase, controls, GivesWidePart, GivesConeWide, GivesPrimesOver, GivesReset, GivesEnable, IsLeastCount, GivesTermsOver}
use Rattle.plans.specs.ChipBreaches.{GivesNoInput, GivesFullRow}
use Rattle.plans.specs.Breaches.{Rule, ChipTwice, UnitUnknown, UnitTwice, ChipUnknown, NoCell, PinTaken, NotAbsorbable, Unplaced, WrongMode, WrongClock, WrongPhase, ConeWide, PrimesOver, WrongReset, WrongEnable, TermsOver, NoInput, FullRow, all_rules, RuleGives, IsBreach, HasNoBreach}
use Rattle.plans.proofs.Firsts.{GivesOne, first-one, says-one, none-first, none-each}
use Rattle.plans.proofs.Cones.{cone-one}
use Rattle.plans.proofs.FormLaws.{chip-one}

not-absorbable-one : (b : Joined) → GivesOne (GivesNotAbsorbable b)
not-absorbable-one b (Place unit chip pin) x y h k = absurd h
not-absorbable-one b (Absorb unit) x y h k = h.names ∙ sym k.names

unplaced-one : (b : Joined) (p : Plan) → GivesOne (GivesUnplaced b p)
unplaced-one b p u x y h k = h.names ∙ sym k.names

wide-one : (b : Joined) (absorbed : List ℕ) (sum : Inverted) (n m : ℕ) → IsWide b absorbed sum n → IsWide b absorbed sum m → n ≡ m
wide-one b absorbed sum n m h k = h.number ∙ ap length (cone-one b absorbed sum.terms h.variables k.variables h.cone k.cone) ∙ sym k.number

wide-part-one : (b : Joined) (absorbed : List ℕ) (z : Placing) → GivesOne (GivesWidePart b absorbed z)
wide-part-one b absorbed z q x y h k =
    h.names ∙ ap (λ (n : ℕ). breach.ConeWide z.name n) (wide-one b absorbed (unit_part b z.unit q) h.count k.count h.wide k.wide) ∙ sym k.names

cone-wide-one : (b : Joined) (absorbed : List ℕ) → GivesOne (GivesConeWide b absorbed)
cone-wide-one b absorbed z x y h k = first-one (GivesWidePart b absorbed z) (wide-part-one b absorbed z) (part.Logic ∷ controls) x y h k

primes-over-one : (b : Joined) (absorbed : List ℕ) → GivesOne (GivesPrimesOver b absorbed)
primes-over-one b absorbed z x y h k = h.names ∙ sym k.names

reset-one : (b : Joined) (p : Plan) → GivesOne (GivesReset b p)
reset-one b p z x y h k = h.names ∙ sym k.names

enable-one : (b : Joined) (p : Plan) → GivesOne (GivesEnable b p)
enable-one b p z x y h k = h.names ∙ sym k.names

least-same : (n m : ℕ) → n ≤ m → m ≤ n → n ≡ m
least-same n m a b = omega arith

least-one : (b : Joined) (absorbed : List ℕ) (u : ℕ) (room : Room) (n m : ℕ) → IsLeastCount b absorbed u room n → IsLeastCount b absorbed u room m → n ≡ m
least-one b absorbed u room n m h k =
    let a : n ≤ m = subst (λ (q : ℕ). n ≤ q) (sym k.count) (h.least k.form k.products k.allowed k.offered) in
    let c : m ≤ n = subst (λ (q : ℕ). m ≤ q) (sym h.count) (k.least h.form h.products h.allowed h.offered) in
    least-same n m a c

terms-over-one : (b : Joined) (absorbed : List ℕ) → GivesOne (GivesTermsOver b absorbed)
terms-over-one b absorbed z x y h k =
    h.names ∙ ap (λ (n : ℕ). breach.TermsOver z.name n (room_of b z).most) (least-one b absorbed z.unit (room_of b z) h.needed k.needed h.least k.least) ∙ sym k.names

no-input-one : (b : Joined) (p : Plan) → GivesOne (GivesNoInput b p)
no-input-one b p c x y h k =
    let chip : h.chip ≡ k.chip = chip-one b p c h.chip k.chip h.is_new k.is_new in
    let same : h.variable ≡ k.variable = same_Some h.variable k.variable (sym h.first ∙ ap (first_unserved (old b)) chip ∙ k.first) in
    h.names ∙ ap (λ (v : Read). breach.NoInput c.name (var_of b.chips v)) same ∙ sym k.names

full-row-one : (b : Joined) (p : Plan) → GivesOne (GivesFullRow b p)
full-row-one b p z x y h k = h.names ∙ sym k.names

rule-one : (b : Joined) (p : Plan) → GivesOne (RuleGives b p)
rule-one b p ChipTwice x y h k = first-one (Says chip_twice) (says-one chip_twice) (behind [] p.chips) x y h k
rule-one b p UnitUnknown x y h k = first-one (Says (unit_unknown b)) (says-one (unit_unknown b)) p.lines x y h k
rule-one b p UnitTwice x y h k = first-one (Says unit_twice) (says-one unit_twice) (behind [] p.lines) x y h k
rule-one b p ChipUnknown x y h k = first-one (Says (chip_unknown p)) (says-one (chip_unknown p)) p.lines x y h k
rule-one b p NoCell x y h k = first-one (Says (no_cell p)) (says-one (no_cell p)) p.lines x y h k
rule-one b p PinTaken x y h k = first-one (Says pin_taken) (says-one pin_taken) (behind [] p.lines) x y h k
rule-one b p NotAbsorbable x y h k = first-one (GivesNotAbsorbable b) (not-absorbable-one b) p.lines x y h k
rule-one b p Unplaced x y h k = first-one (GivesUnplaced b p) (unplaced-one b p) (numbered_units b) x y h k
rule-one b p WrongMode x y h k = first-one (Says (wrong_mode b)) (says-one (wrong_mode b)) (placings b p) x y h k
rule-one b p WrongClock x y h k = first-one (Says (wrong_clock b p)) (says-one (wrong_clock b p)) (placings b p) x y h k
rule-one b p WrongPhase x y h k = first-one (Says (wrong_phase b)) (says-one (wrong_phase b)) (placings b p) x y h k
rule-one b p ConeWide x y h k = first-one (GivesConeWide b (absorbed_units b p)) (cone-wide-one b (absorbed_units b p)) (placings b p) x y h k
rule-one b p PrimesOver x y h k = first-one (GivesPrimesOver b (absorbed_units b p)) (primes-over-one b (absorbed_units b p)) (placings b p) x y h k
rule-one b p WrongReset x y h k = first-one (GivesReset b p) (reset-one b p) (placings b p) x y h k
rule-one b p WrongEnable x y h k = first-one (GivesEnable b p) (enable-one b p) (placings b p) x y h k
rule-one b p TermsOver x y h k = first-one (GivesTermsOver b (absorbed_units b p)) (terms-over-one b (absorbed_units b p)) (placings b p) x y h k
rule-one b p NoInput x y h k = first-one (GivesNoInput b p) (no-input-one b p) p.chips x y h k
rule-one b p FullRow x y h k = first-one (GivesFullRow b p) (full-row-one b p) (placings b p) x y h k

-- a plan has one breach at most
pub breach-one : (b : Joined) (p : Plan) (x y : Breach) → IsBreach b p x → IsBreach b p y → x ≡ y
breach-one b p x y h k = first-one (RuleGives b p) (rule-one b p) all_rules x y h k

-- each rule is among all rules
every-rule : (r : Rule) → Among r all_rules
every-rule ChipTwice = inl refl
every-rule UnitUnknown = inr (inl refl)
every-rule UnitTwice = inr (inr (inl refl))
every-rule ChipUnknown = inr (inr (inr (inl refl)))
every-rule NoCell = inr (inr (inr (inr (inl refl))))
every-rule PinTaken = inr (inr (inr (inr (inr (inl refl)))))
every-rule NotAbsorbable = inr (inr (inr (inr (inr (inr (inl refl))))))
every-rule Unplaced = inr (inr (inr (inr (inr (inr (inr (inl refl)))))))
every-rule WrongMode = inr (inr (inr (inr (inr (inr (inr (inr (inl refl))))))))
every-rule WrongClock = inr (inr (inr (inr (inr (inr (inr (inr (inr (inl refl)))))))))
every-rule WrongPhase = inr (inr (inr (inr (inr (inr (inr (inr (inr (inr (inl refl))))))))))
every-rule ConeWide = inr (inr (inr (inr (inr (inr (inr (inr (inr (inr (inr (inl refl)))))))))))
every-rule PrimesOver = inr (inr (inr (inr (inr (inr (inr (inr (inr (inr (inr (inr (inl refl))))))))))))
every-rule WrongReset = inr (inr (inr (inr (inr (inr (inr (inr (inr (inr (inr (inr (inr (inl refl)))))))))))))
every-rule WrongEnable = inr (inr (inr (inr (inr (inr (inr (inr (inr (inr (inr (inr (inr (inr (inl refl))))))))))))))
every-rule TermsOver = inr (inr (inr (inr (inr (inr (inr (inr (inr (inr (inr (inr (inr (inr (inr (inl refl)))))))))))))))
every-rule NoInput = inr (inr (inr (inr (inr (inr (inr (inr (inr (inr (inr (inr (inr (inr (inr (inr (inl refl))))))))))))))))
every-rule FullRow = inr (inr (inr (inr (inr (inr (inr (inr (inr (inr (inr (inr (inr (inr (inr (inr (inr (inl refl)))))))))))))))))

-- a plan has no breach exactly where no rule is broken
pub unbroken-none : (b : Joined) (p : Plan) → ((r : Rule) (x : Breach) → RuleGives b p r x → ⊥) → HasNoBreach b p
unbroken-none b p none = none-first (RuleGives b p) all_rules none

pub none-unbroken : (b : Joined) (p : Plan) → HasNoBreach b p → (r : Rule) (x : Breach) → RuleGives b p r x → ⊥
none-unbroken b p none r x h = none-each (RuleGives b p) all_rules none r (every-rule r) x h
