-- What is left of the primes covers the function, and none of it can be left out.
use Rattle.std.proofs.Common.{◌≡◌, ℕ, zero, suc, ◌<◌, Bool, true, false, ◌||◌, refl, sym, ◌∙◌, ap, subst, arith, inl, inr, List, [], ◌∷◌, ◌++◌, length, append_assoc, true≢false}
use Rattle.std.specs.List.{remove, AllByRecursion}
use Rattle.bdd.specs.Tree.{Point}
use Rattle.primes.specs.Prime.{Function, Product, lies_in, IsImplicant, in_some, Covers}
use Rattle.cover.specs.Cover.{IsLeft}

pub in_some_append : (xs ys : List Product) (p : Point) → in_some (xs ++ ys) p ≡ (in_some xs p || in_some ys p)
in_some_append [] ys p = refl
in_some_append (x ∷ xs) ys p = by (lies_in x p) (in_some_append xs ys p)
  where
    by : (b : Bool) → in_some (xs ++ ys) p ≡ (in_some xs p || in_some ys p) → (b || in_some (xs ++ ys) p) ≡ ((b || in_some xs p) || in_some ys p)
    by true h = refl
    by false h = h

-- one product more covers no less
covers_more : (f : Function) (before : List Product) (t : Product) (rest : List Product) → Covers f (before ++ rest) → Covers f ((before ++ t ∷ []) ++ rest)
covers_more f before t rest h p m =
    in_some_append (before ++ t ∷ []) rest p ∙ ap (λ b. b || in_some rest p) (in_some_append before (t ∷ []) p)
    ∙ by (in_some before p) (lies_in t p) (in_some rest p) (sym (in_some_append before rest p) ∙ h p m)
  where
    by : (a b c : Bool) → (a || c) ≡ true → ((a || (b || false)) || c) ≡ true
    by true b c e = refl
    by false true c e = refl
    by false false c e = e

-- what is left covers where all did
pub left_covers : (f : Function) (before ts left : List Product) → IsLeft f before ts left → Covers f (before ++ ts) → Covers f (before ++ left)
left_covers f before [] left h c = subst (λ xs. Covers f (before ++ xs)) (sym h) c
left_covers f before (t ∷ ts) left h c =
    let inner : Covers f ((before ++ t ∷ []) ++ h.0) = left_covers f (before ++ t ∷ []) ts h.0 h.1 (subst (Covers f) (sym (append_assoc before (t ∷ []) ts)) c) in
    elim h.2 [
      | inl d ↦ subst (λ xs. Covers f (before ++ xs)) (sym d.1) d.0
      | inr d ↦ subst (λ xs. Covers f (before ++ xs)) (sym d.1) (subst (Covers f) (append_assoc before (t ∷ []) h.0) inner)
    ]

-- none of what is left can be left out
pub left_needed : (f : Function) (before ts left : List Product) → IsLeft f before ts left → (i : ℕ) → i < length left → Covers f (before ++ remove left i) → ⊥
left_needed f before [] left h i l c = absurd (omega (arith, ap length h))
left_needed f before (t ∷ ts) left h i l c =
    elim h.2 [
      | inl d ↦ left_needed f (before ++ t ∷ []) ts h.0 h.1 i (subst (λ (xs : List Product). i < length xs) d.1 l)
          (covers_more f before t (remove h.0 i) (subst (λ xs. Covers f (before ++ remove xs i)) d.1 c))
      | inr d ↦ at i (subst (λ (xs : List Product). i < length xs) d.1 l) (subst (λ xs. Covers f (before ++ remove xs i)) d.1 c) d.0
          (left_needed f (before ++ t ∷ []) ts h.0 h.1)
    ]
  where
    at : (i : ℕ) → i < length (t ∷ h.0) → Covers f (before ++ remove (t ∷ h.0) i) → (Covers f (before ++ h.0) → ⊥)
        → ((j : ℕ) → j < length h.0 → Covers f ((before ++ t ∷ []) ++ remove h.0 j) → ⊥) → ⊥
    at zero l c no_cover inner = no_cover c
    at (suc j) l c no_cover inner = inner j (omega arith) (subst (Covers f) (sym (append_assoc before (t ∷ []) (remove h.0 j))) c)

-- what holds of each product holds of what is left
pub left_each : (P : Product → Type 0) (f : Function) (before ts left : List Product) → IsLeft f before ts left → AllByRecursion P ts → AllByRecursion P left
left_each P f before [] left h a = subst (AllByRecursion P) (sym h) tt
left_each P f before (t ∷ ts) left h a =
    let inner = left_each P f (before ++ t ∷ []) ts h.0 h.1 a.1 in
    elim h.2 [ inl d ↦ subst (AllByRecursion P) (sym d.1) inner | inr d ↦ subst (AllByRecursion P) (sym d.1) (a.0, inner) ]

-- products inside the function have their sum inside it
pub sum_inside : (f : Function) (ts : List Product) → AllByRecursion (IsImplicant f) ts → (p : Point) → in_some ts p ≡ true → f p ≡ true
sum_inside f [] a p m = absurd (true≢false (sym m))
sum_inside f (t ∷ ts) a p m = by (lies_in t p) refl m (sum_inside f ts a.1 p)
  where
    by : (b : Bool) → lies_in t p ≡ b → (b || in_some ts p) ≡ true → (in_some ts p ≡ true → f p ≡ true) → f p ≡ true
    by true e m rest = a.0 p e
    by false e m rest = rest m

-- so where they cover it, their sum is the function
pub sum_is : (f : Function) (ts : List Product) → AllByRecursion (IsImplicant f) ts → Covers f ts → (p : Point) → f p ≡ in_some ts p
sum_is f ts a c p = by (f p) (in_some ts p) (c p) (sum_inside f ts a p)
  where
    by : (a b : Bool) → (a ≡ true → b ≡ true) → (b ≡ true → a ≡ true) → a ≡ b
    by true b h k = sym (h refl)
    by false true h k = k refl
    by false false h k = refl
