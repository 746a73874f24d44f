-- The steps of the loop that puts a side's primes to the terms.
use Rattle.std.proofs.Common.{◌≡◌, ℕ, ◌+◌, ◌<◌, Bool, true, false, cond, refl, sym, ◌∙◌, ap, List, [], ◌∷◌, ◌++◌, length, get_or, take, append_assoc, append-nil}
use Rattle.std.proofs.lemmas.List.{take_more}
use Rattle.primes.specs.Prime.{Literal, Product}
use Rattle.primes.specs.Steps.{has, apart, prefixed}

prefixed_append : (l : Literal) (xs ys : List Product) → prefixed l (xs ++ ys) ≡ prefixed l xs ++ prefixed l ys
prefixed_append l [] ys = refl
prefixed_append l (x ∷ xs) ys = ap (λ (ts : List Product). (l ∷ x) ∷ ts) (prefixed_append l xs ys)

apart_append : (us ts : List Product) (t : Product) → apart us (ts ++ t ∷ []) ≡ apart us ts ++ cond (has us t) [] (t ∷ [])
apart_append us [] t = by (has us t)
  where
    by : (b : Bool) → cond b [] (t ∷ []) ≡ [] ++ cond b [] (t ∷ [])
    by true = refl
    by false = refl
apart_append us (x ∷ ts) t = by (has us x) (apart_append us ts t)
  where
    by : (b : Bool) → apart us (ts ++ t ∷ []) ≡ apart us ts ++ cond (has us t) [] (t ∷ [])
        → cond b (apart us (ts ++ t ∷ [])) (x ∷ apart us (ts ++ t ∷ [])) ≡ cond b (apart us ts) (x ∷ apart us ts) ++ cond (has us t) [] (t ∷ [])
    by true e = e
    by false e = ap (λ (ys : List Product). x ∷ ys) e

step : (l : Literal) (us side : List Product) (i : ℕ) (t : Product) → i < length side → t ≡ get_or side i t → (b : Bool) → has us t ≡ b
    → prefixed l (apart us (take (i + 1) side)) ≡ prefixed l (apart us (take i side)) ++ prefixed l (cond b [] (t ∷ []))
step l us side i t lt at b e =
    ap (λ (ts : List Product). prefixed l (apart us ts)) (take_more side i t lt ∙ ap (λ (u : Product). take i side ++ u ∷ []) (sym at))
    ∙ ap (prefixed l) (apart_append us (take i side) t ∙ ap (λ c. apart us (take i side) ++ cond c [] (t ∷ [])) e)
    ∙ prefixed_append l (apart us (take i side)) (cond b [] (t ∷ []))

-- a product that us has not is put last, with the literal at its front
pub apart_more : (old now : List Product) (l : Literal) (us side : List Product) (i : ℕ) (t : Product) → i < length side → t ≡ get_or side i t → has us t ≡ false
    → now ≡ old ++ prefixed l (apart us (take i side)) → now ++ (l ∷ t) ∷ [] ≡ old ++ prefixed l (apart us (take (i + 1) side))
apart_more old now l us side i t lt at e h =
    ap (λ (ts : List Product). ts ++ (l ∷ t) ∷ []) h ∙ append_assoc old (prefixed l (apart us (take i side))) ((l ∷ t) ∷ [])
    ∙ ap (λ (ts : List Product). old ++ ts) (sym (step l us side i t lt at false e))

-- a product that us has is left out
pub apart_kept : (old now : List Product) (l : Literal) (us side : List Product) (i : ℕ) (t : Product) → i < length side → t ≡ get_or side i t → has us t ≡ true
    → now ≡ old ++ prefixed l (apart us (take i side)) → now ≡ old ++ prefixed l (apart us (take (i + 1) side))
apart_kept old now l us side i t lt at e h =
    h ∙ ap (λ (ts : List Product). old ++ ts) (sym (step l us side i t lt at true e ∙ append-nil (prefixed l (apart us (take i side)))))
