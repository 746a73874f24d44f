-- More places than values: two places have one value. A walk that goes on for long enough comes back.
use Rattle.std.proofs.Common.{ℕ, zero, suc, ◌≡◌, ◌⊎◌, ◌<◌, ◌≤◌, ◌-◌, cond, ltb, sym, ap, ◌∙◌, arith, inl, inr}
use Rattle.std.proofs.lemmas.Bool.{cases_eq, cases_lt}
use Rattle.std.proofs.lemmas.Bool.Decides.{nat_tests}

-- a place up to k has this value, or none has
found : (f : ℕ → ℕ) (x k : ℕ) → ((i : ℕ) × (i ≤ k) × (f i ≡ x)) ⊎ ((i : ℕ) → i ≤ k → f i ≡ x → ⊥)
found f x zero = at (cases_eq (f 0) x)
  where
    at : (f 0 ≡ x) ⊎ (f 0 ≡ x → ⊥) → ((i : ℕ) × (i ≤ 0) × (f i ≡ x)) ⊎ ((i : ℕ) → i ≤ 0 → f i ≡ x → ⊥)
    at (inl e) = inl (0, omega arith, e)
    at (inr ne) = inr (λ i le e. let z : i ≡ 0 = omega arith in ne (ap f (sym z) ∙ e))
found f x (suc k) = at (cases_eq (f (suc k)) x) (found f x k)
  where
    at : (f (suc k) ≡ x) ⊎ (f (suc k) ≡ x → ⊥) → ((i : ℕ) × (i ≤ k) × (f i ≡ x)) ⊎ ((i : ℕ) → i ≤ k → f i ≡ x → ⊥) →
        ((i : ℕ) × (i ≤ suc k) × (f i ≡ x)) ⊎ ((i : ℕ) → i ≤ suc k → f i ≡ x → ⊥)
    at (inl e) rest = inl (suc k, omega arith, e)
    at (inr ne) (inl (i, le, e)) = inl (i, omega arith, e)
    at (inr ne) (inr none) = inr (λ i le e. last i le e (cases_eq i (suc k)))
      where
        last : (i : ℕ) → i ≤ suc k → f i ≡ x → (i ≡ suc k) ⊎ (i ≡ suc k → ⊥) → ⊥
        last i le e (inl z) = ne (ap f (sym z) ∙ e)
        last i le e (inr nz) = none i (omega arith) e

-- the values with x taken out
squeezed : ℕ → ℕ → ℕ
squeezed x y = cond (ltb y x) y (y - 1)

squeezed-same : (x y z : ℕ) → (y ≡ x → ⊥) → (z ≡ x → ⊥) → squeezed x y ≡ squeezed x z → y ≡ z
unfolding squeezed
squeezed-same x y z ny nz e = at (cases_lt y x) (cases_lt z x)
  where
    low : (a : ℕ) → a < x → cond (ltb a x) a (a - 1) ≡ a
    low a h = grind (arith, nat_tests)

    high : (a : ℕ) → x ≤ a → cond (ltb a x) a (a - 1) ≡ a - 1
    high a h = grind (arith, nat_tests)

    at : (y < x) ⊎ (x ≤ y) → (z < x) ⊎ (x ≤ z) → y ≡ z
    at (inl a) (inl b) = omega (arith, low y a, low z b)
    at (inl a) (inr b) = absurd (omega (arith, low y a, high z b))
    at (inr a) (inl b) = absurd (omega (arith, high y a, low z b))
    at (inr a) (inr b) = omega (arith, high y a, high z b)

squeezed-below : (x y n : ℕ) → x ≤ n → y < suc n → (y ≡ x → ⊥) → squeezed x y < n
unfolding squeezed
squeezed-below x y n hx hy ny = at (cases_lt y x)
  where
    at : (y < x) ⊎ (x ≤ y) → cond (ltb y x) y (y - 1) < n
    at (inl a) = let e : cond (ltb y x) y (y - 1) ≡ y = grind (arith, nat_tests) in omega arith
    at (inr a) = let e : cond (ltb y x) y (y - 1) ≡ y - 1 = grind (arith, nat_tests) in omega arith

pub pigeons : (n : ℕ) (f : ℕ → ℕ) → ((i : ℕ) → i ≤ n → f i < n) → (i : ℕ) × (j : ℕ) × (i < j) × (j ≤ n) × (f i ≡ f j)
pigeons zero f h = absurd (omega (arith, h 0 (omega arith)))
pigeons (suc n) f h = at (found f (f (suc n)) n) (λ none. pigeons n (λ i. squeezed (f (suc n)) (f i)) (λ i le. squeezed-below (f (suc n)) (f i) n (omega (arith, h (suc n) (omega arith))) (h i (omega arith)) (none i le)))
  where
    at : ((i : ℕ) × (i ≤ n) × (f i ≡ f (suc n))) ⊎ ((i : ℕ) → i ≤ n → f i ≡ f (suc n) → ⊥) →
        (((i : ℕ) → i ≤ n → f i ≡ f (suc n) → ⊥) → (i : ℕ) × (j : ℕ) × (i < j) × (j ≤ n) × (squeezed (f (suc n)) (f i) ≡ squeezed (f (suc n)) (f j))) →
        (i : ℕ) × (j : ℕ) × (i < j) × (j ≤ suc n) × (f i ≡ f j)
    at (inl (i, le, e)) rest = (i, suc n, omega arith, omega arith, e)
    at (inr none) rest = let r : (i : ℕ) × (j : ℕ) × (i < j) × (j ≤ n) × (squeezed (f (suc n)) (f i) ≡ squeezed (f (suc n)) (f j)) = rest none in
        (r.0, r.1, r.2, omega arith, squeezed-same (f (suc n)) (f r.0) (f r.1) (none r.0 (omega arith)) (none r.1 (omega arith)) r.4)
