-- What a plan without breach keeps: each placed unit is named by one line, on a chip of the plan that has its name alone.
use Rattle.std.proofs.Common.{ℕ, ◌≡◌, Bool, true, false, not, cond, List, [], ◌∷◌, ◌++◌, map, Some, refl, sym, ap, ◌∙◌, inl, inr, ◌⊎◌}
use Rattle.std.specs.List.{list_any}
use Rattle.std.specs.Str.{bytes_eq}
use Rattle.std.proofs.lemmas.Bool.{and_from, and_parts, not-true}
use Rattle.std.proofs.lemmas.Option.{same_Some}
use Rattle.std.proofs.lemmas.Slice.Eq.{bytes_eq-Decides}
use Rattle.mig_base.specs.Among.{Among}
use Rattle.mig_base.specs.declared.plans.Plan.{Plan}
use Rattle.mig_base.specs.declared.plans.PlanChip.{PlanChip}
use Rattle.mig_base.specs.declared.plans.Breach.TheVariants as breach
use Rattle.mig_base.specs.WrittenBoard.{are_distinct}
use Rattle.mig_base.proofs.Amongs.{among-any, any-among, among-left, among-right, among-map, map-among}
use Rattle.mig_base.proofs.Distinct.{bytes-equal, same-refl}
use Rattle.board.specs.Joined.{Joined}
use Rattle.new_board.specs.NewChip.{when}
use Rattle.plans.specs.FirstOf.{Says, behind}
use Rattle.plans.specs.Placings.{chip_named}
use Rattle.plans.specs.LineBreaches.{chip_twice}
use Rattle.plans.specs.Breaches.{ChipTwice, all_rules, RuleGives, HasNoBreach}
use Rattle.plans.proofs.Firsts.{none-each}

-- a test that says nothing fails
pub fails : {T : Type 0} (q : Bool) (x : T) → ((y : T) → when q (Some x) ≡ Some y → ⊥) → q ≡ false
fails false x none = refl
fails true x none = absurd (none x refl)

pub bytes-same : (u v : List ℕ) → bytes_eq u v ≡ true → u ≡ v
bytes-same u v e = (bytes_eq-Decides u v).0 e

-- an item with those before it, among which are all that stood before
pub held : {T : Type 0} (before xs : List T) (x : T) → Among x xs → (front : List T) × Among (front, x) (behind before xs) × ((y : T) → Among y before → Among y front)
held before [] x a = absurd a
held before (z ∷ zs) x (inl e) = (before, inl (ap (λ w. (before, w)) e), λ y a. a)
held before (z ∷ zs) x (inr a) = let rest = held (before ++ z ∷ []) zs x a in (rest.0, inr rest.1, λ y h. rest.2 y (among-left y before (z ∷ []) h))

pub last-among : {T : Type 0} (x : T) (before : List T) → Among x (before ++ x ∷ [])
last-among x before = among-right x before (x ∷ []) (inl refl)

-- chips

abbrev ChipsApart : List PlanChip → List PlanChip → Type 0
ChipsApart before cs = (q : List PlanChip × PlanChip) → Among q (behind before cs) → list_any (λ d. bytes_eq d.name q.1.name) q.0 ≡ false

names-apart : (before cs : List PlanChip) → ChipsApart before cs → are_distinct bytes_eq (map (λ (c : PlanChip). c.name) cs) ≡ true
names-apart before [] h = refl
names-apart before (c ∷ cs) h = and_from (not (list_any (bytes_eq c.name) names)) (are_distinct bytes_eq names) (ap not (none (list_any (bytes_eq c.name) names) refl)) (names-apart (before ++ c ∷ []) cs (λ q a. h q (inr a)))
  where
    names : List (List ℕ)
    names = map (λ (d : PlanChip). d.name) cs

    none : (t : Bool) → list_any (bytes_eq c.name) (map (λ (d : PlanChip). d.name) cs) ≡ t → t ≡ false
    none false e = refl
    none true e =
        let n = any-among (bytes_eq c.name) (map (λ (d : PlanChip). d.name) cs) e in
        let d = among-map (λ (d : PlanChip). d.name) n.0 cs n.1 in
        let there = held (before ++ c ∷ []) cs d.0 d.1 in
        let named = among-any (λ (k : PlanChip). bytes_eq k.name d.0.name) c there.0 (there.2 c (last-among c before)) (ap (bytes_eq c.name) (sym d.2) ∙ n.2) in
        sym named ∙ h (there.0, d.0) (inr there.1)

no-twice : (b : Joined) (p : Plan) → HasNoBreach b p → ChipsApart [] p.chips
no-twice b p none q a = fails (list_any (λ d. bytes_eq d.name q.1.name) q.0) (breach.ChipTwice q.1.name)
    (λ y e. none-each (Says chip_twice) (behind [] p.chips) (none-each (RuleGives b p) all_rules none ChipTwice (inl refl)) q a y e)

-- the names of the chips differ
pub chips-distinct : (b : Joined) (p : Plan) → HasNoBreach b p → are_distinct bytes_eq (map (λ (c : PlanChip). c.name) p.chips) ≡ true
chips-distinct b p none = names-apart [] p.chips (no-twice b p none)

-- a chip is the one of its name
pub named-own : (cs : List PlanChip) (c d : PlanChip) → are_distinct bytes_eq (map (λ (e : PlanChip). e.name) cs) ≡ true → Among c cs → chip_named cs c.name ≡ Some d → d ≡ c
named-own [] c d h a e = absurd a
named-own (x ∷ xs) c d h a e = at (bytes_eq x.name c.name) refl a e (named-own xs c d (and_parts (not (list_any (bytes_eq x.name) (map (λ (e : PlanChip). e.name) xs))) _ h).1)
  where
    parts : (not (list_any (bytes_eq x.name) (map (λ (e : PlanChip). e.name) xs)) ≡ true) × (are_distinct bytes_eq (map (λ (e : PlanChip). e.name) xs) ≡ true)
    parts = and_parts _ _ h

    at : (q : Bool) → bytes_eq x.name c.name ≡ q → (c ≡ x) ⊎ Among c xs → cond q (Some x) (chip_named xs c.name) ≡ Some d → (Among c xs → chip_named xs c.name ≡ Some d → d ≡ c) → d ≡ c
    at true is (inl same) k rest = sym (same_Some x d k) ∙ sym same
    at true is (inr more) k rest =
        let found = among-any (bytes_eq x.name) c.name (map (λ (e : PlanChip). e.name) xs) (map-among (λ (e : PlanChip). e.name) c xs more) is in
        let wrong : true ≡ false = sym found ∙ not-true _ parts.0 in
        cc
    at false is (inl same) k rest =
        let self : bytes_eq x.name c.name ≡ true = ap (λ (e : PlanChip). bytes_eq x.name e.name) same ∙ same-refl bytes-equal x.name in
        let wrong : true ≡ false = sym self ∙ is in
        cc
    at false is (inr more) k rest = rest more k
