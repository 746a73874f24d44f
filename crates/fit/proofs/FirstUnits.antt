-- The first registered unit of a chip, by its place.
use Rattle.std.proofs.Common.{ℕ, ◌≡◌, ◌+◌, Bool, true, false, cond, ◌&&◌, List, [], ◌∷◌, ◌++◌, length, filter, Option, Some, refl, sym, ap, ◌∙◌, inl, append_assoc, length-append}
use Rattle.std.specs.Prelude.{option_and_then}
use Rattle.std.specs.List.{slice_get, position, position_from}
use Rattle.std.proofs.lemmas.Option.{same_Some}
use Rattle.std.proofs.lemmas.Iterator.Adapters.{position_from-zero}
use Rattle.mig_base.specs.Among.{Among}
use Rattle.mig_base.proofs.Amongs.{among-filter, filter-among}
use Rattle.mig_base.proofs.Distinct.{bytes-equal, same-refl}
use Rattle.mig_base.specs.declared.plans.Plan.{Plan}
use Rattle.board.specs.Joined.{Joined}
use Rattle.new_board.specs.NewChip.{first_of}
use Rattle.plans.specs.declared.placing.Placing.{Placing}
use Rattle.plans.specs.Placings.{placings, is_on}
use Rattle.plans.specs.Forms.{has_register}
use Rattle.plans.specs.UnitBreaches.{first_on}

at-front : {T : Type 0} (before rest : List T) (x : T) → slice_get (before ++ x ∷ rest) (length before) ≡ Some x
at-front [] rest x = refl
at-front (y ∷ ys) rest x = at-front ys rest x

first-found : {T : Type 0} (t : T → Bool) (before xs : List T) → option_and_then (slice_get (before ++ xs)) (position_from t (length before) xs) ≡ first_of (filter t xs)
first-found t before [] = refl
first-found {T} t before (x ∷ xs) = at (t x) (first-found t (before ++ x ∷ []) xs)
  where
    at : (q : Bool) → option_and_then (slice_get ((before ++ x ∷ []) ++ xs)) (position_from t (length (before ++ x ∷ [])) xs) ≡ first_of (filter t xs) →
        option_and_then (slice_get (before ++ x ∷ xs)) (cond q (Some (length before)) (position_from t (length before + 1) xs)) ≡ first_of (cond q (x ∷ filter t xs) (filter t xs))
    at true h = at-front before xs x
    at false h = sym (λ i. option_and_then (slice_get (append_assoc before (x ∷ []) xs i)) (position_from t (length-append before (x ∷ []) i) xs)) ∙ h

filter-both : {T : Type 0} (p q : T → Bool) (xs : List T) → filter (λ x. p x && q x) xs ≡ filter q (filter p xs)
filter-both p q [] = refl
filter-both {T} p q (x ∷ xs) = at (p x) (q x) refl (filter-both p q xs)
  where
    at : (a b : Bool) → q x ≡ b → filter (λ y. p y && q y) xs ≡ filter q (filter p xs) → cond (a && b) (x ∷ filter (λ y. p y && q y) xs) (filter (λ y. p y && q y) xs) ≡ filter q (cond a (x ∷ filter p xs) (filter p xs))
    at false b e h = h
    at true true e h = ap (λ (ys : List T). x ∷ ys) h ∙ ap (λ (c : Bool). cond c (x ∷ filter q (filter p xs)) (filter q (filter p xs))) (sym e)
    at true false e h = h ∙ ap (λ (c : Bool). cond c (x ∷ filter q (filter p xs)) (filter q (filter p xs))) (sym e)

-- the unit at the first place where a unit is registered on the chip
pub first-at : (b : Joined) (p : Plan) (x : Placing) (units : List Placing) (o : Option ℕ) → units ≡ placings b p → o ≡ position (λ y. is_on x.chip.name y && has_register b y.unit) units →
    option_and_then (slice_get units) o ≡ first_on b p x
first-at b p x units o e is =
    ap (option_and_then (slice_get units)) (is ∙ position_from-zero (λ y. is_on x.chip.name y && has_register b y.unit) units)
    ∙ first-found (λ y. is_on x.chip.name y && has_register b y.unit) [] units
    ∙ ap first_of (filter-both (is_on x.chip.name) (λ y. has_register b y.unit) units)
    ∙ ap (λ (us : List Placing). first_of (filter (λ y. has_register b y.unit) (filter (is_on x.chip.name) us))) e

-- a registered unit's chip has a first one
first-there : {T : Type 0} (xs : List T) (x : T) → Among x xs → (y : T) × (first_of xs ≡ Some y) × Among y xs
first-there [] x a = absurd a
first-there (z ∷ zs) x a = (z, refl, inl refl)

first-among : {T : Type 0} (xs : List T) (y : T) → first_of xs ≡ Some y → Among y xs
first-among [] y e = let wrong = e in cc
first-among (z ∷ zs) y e = inl (sym (same_Some z y e))

-- and it is one of the placed units
pub first-placed : (b : Joined) (p : Plan) (x y : Placing) → first_on b p x ≡ Some y → Among y (placings b p)
first-placed b p x y e =
    let a = among-filter (λ z. has_register b z.unit) y (filter (is_on x.chip.name) (placings b p)) (first-among (filter (λ z. has_register b z.unit) (filter (is_on x.chip.name) (placings b p))) y e) in
    (among-filter (is_on x.chip.name) y (placings b p) a.1).1

-- a registered unit that is placed has a first registered unit on its chip
pub first-own : (b : Joined) (p : Plan) (x : Placing) → Among x (placings b p) → has_register b x.unit ≡ true → (y : Placing) × (first_on b p x ≡ Some y)
first-own b p x a e =
    let on = filter-among (is_on x.chip.name) x (placings b p) (same-refl bytes-equal x.chip.name) a in
    let there = first-there (filter (λ z. has_register b z.unit) (filter (is_on x.chip.name) (placings b p))) x (filter-among (λ z. has_register b z.unit) x (filter (is_on x.chip.name) (placings b p)) e on) in
    (there.0, there.1)
