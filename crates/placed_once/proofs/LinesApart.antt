-- A unit that a line absorbs isn't placed by one.
use Rattle.std.proofs.Common.{◌≡◌, Bool, true, false, List, [], ◌∷◌, ◌++◌, Option, Some, None, refl, sym, ap, ◌∙◌, inl, inr}
use Rattle.mig_base.specs.Among.{Among}
use Rattle.mig_base.specs.First.{or_else}
use Rattle.mig_base.specs.declared.nets.PinName.{PinName}
use Rattle.mig_base.specs.declared.plans.Plan.{Plan}
use Rattle.mig_base.specs.declared.plans.PlanLine.{PlanLine}
use Rattle.mig_base.specs.declared.plans.PlanLine.TheVariants.{Place, Absorb}
use Rattle.mig_base.specs.declared.plans.Breach.TheVariants as breach
use Rattle.mig_base.proofs.Amongs.{among-any, any-among}
use Rattle.mig_base.proofs.Distinct.{same-is, same-refl}
use Rattle.board.specs.Joined.{Joined}
use Rattle.new_board.specs.NewChip.{when}
use Rattle.plans.specs.FirstOf.{Says, behind}
use Rattle.plans.specs.Placings.{absorbs, is_absorbed_in, is_listed, named_by, same_pin, target_by, target_in}
use Rattle.plans.specs.LineBreaches.{unit_twice}
use Rattle.plans.specs.Breaches.{UnitTwice, all_rules, RuleGives, HasNoBreach}
use Rattle.plans.proofs.Firsts.{none-each}
use Rattle.fit.proofs.UnitNames.{pins-equal}
use Rattle.fitted_cells.proofs.PlanRules.{fails, held, last-among}

-- no line names a unit that one before it names
abbrev NoneListed : List PlanLine → List PlanLine → Type 0
NoneListed before lines = (q : List PlanLine × PlanLine) → Among q (behind before lines) → is_listed q.0 (named_by q.1) ≡ false

none-twice : (b : Joined) (p : Plan) → HasNoBreach b p → NoneListed [] p.lines
none-twice b p none q a = fails (is_listed q.0 (named_by q.1)) (breach.UnitTwice (named_by q.1))
    (λ y e. none-each (Says unit_twice) (behind [] p.lines) (none-each (RuleGives b p) all_rules none UnitTwice (inr (inr (inl refl)))) q a y e)

-- a later line of the same unit
later : (before xs : List PlanLine) (x k : PlanLine) → NoneListed before (x ∷ xs) → Among k xs → named_by x ≡ named_by k → ⊥
later before xs x k none a e =
    let there = held (before ++ x ∷ []) xs k a in
    let same : same_pin (named_by x) (named_by k) ≡ true = ap (λ (n : PinName). same_pin n (named_by k)) e ∙ same-refl pins-equal (named_by k) in
    let listed : is_listed there.0 (named_by k) ≡ true = among-any (λ l. same_pin (named_by l) (named_by k)) x there.0 (there.2 x (last-among x before)) same in
    let wrong : true ≡ false = sym listed ∙ none (there.0, k) (inr there.1) in
    cc

-- a unit has one line
one-line : (before lines : List PlanLine) (l k : PlanLine) → NoneListed before lines → Among l lines → Among k lines → named_by l ≡ named_by k → l ≡ k
one-line before [] l k none a c e = absurd a
one-line before (x ∷ xs) l k none (inl p) (inl q) e = p ∙ sym q
one-line before (x ∷ xs) l k none (inl p) (inr c) e = absurd (later before xs x k none c (ap named_by (sym p) ∙ e))
one-line before (x ∷ xs) l k none (inr a) (inl q) e = absurd (later before xs x l none a (ap named_by (sym q) ∙ sym e))
one-line before (x ∷ xs) l k none (inr a) (inr c) e = one-line (before ++ x ∷ []) xs l k (λ q m. none q (inr m)) a c e

abbrev is_place : PlanLine → Bool
is_place (Place unit chip pin) = true
is_place (Absorb unit) = false

-- a line of the unit, which places it or not
abbrev HasLine : List PlanLine → PinName → Bool → Type 0
HasLine lines name q = (l : PlanLine) × Among l lines × (named_by l ≡ name) × (is_place l ≡ q)

here : (l : PlanLine) (ls : List PlanLine) (name t : PinName) → target_by name l ≡ Some t → HasLine (l ∷ ls) name true
here (Absorb unit) ls name t e = cc
here (Place unit chip pin) ls name t e = at (same_pin unit name) refl e
  where
    at : (q : Bool) → same_pin unit name ≡ q → when q (Some (record { chip = chip; pin = pin })) ≡ Some t → HasLine (Place unit chip pin ∷ ls) name true
    at false is k = cc
    at true is k = (Place unit chip pin, inl refl, same-is pins-equal unit name is, refl)

placing-line : (lines : List PlanLine) (name t : PinName) → target_in lines name ≡ Some t → HasLine lines name true
placing-line [] name t e = cc
placing-line (l ∷ ls) name t e = at (target_by name l) refl e (placing-line ls name t)
  where
    at : (o : Option PinName) → target_by name l ≡ o → or_else o (target_in ls name) ≡ Some t → (target_in ls name ≡ Some t → HasLine ls name true) → HasLine (l ∷ ls) name true
    at None is k more = let rest = more k in (rest.0, inr rest.1, rest.2, rest.3)
    at (Some s) is k more = here l ls name s is

absorbing-line : (lines : List PlanLine) (name : PinName) → is_absorbed_in lines name ≡ true → HasLine lines name false
absorbing-line lines name e = let l = any-among (absorbs name) lines e in at l.0 l.1 l.2
  where
    at : (l : PlanLine) → Among l lines → absorbs name l ≡ true → HasLine lines name false
    at (Place unit chip pin) a h = cc
    at (Absorb unit) a h = (Absorb unit, a, same-is pins-equal unit name h, refl)

pub not-both : (b : Joined) (p : Plan) → HasNoBreach b p → (name t : PinName) → target_in p.lines name ≡ Some t → is_absorbed_in p.lines name ≡ true → ⊥
not-both b p none name t e h =
    let l = placing-line p.lines name t e in
    let k = absorbing-line p.lines name h in
    let same : l.0 ≡ k.0 = one-line [] p.lines l.0 k.0 (none-twice b p none) l.1 k.1 (l.2 ∙ sym k.2) in
    let wrong : true ≡ false = sym l.3 ∙ ap is_place same ∙ k.3 in
    cc
