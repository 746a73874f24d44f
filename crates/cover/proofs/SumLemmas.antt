-- Primes have variables of the graph alone, and the steps of the loops over products.
use Rattle.std.proofs.lemmas.Bool.{and_parts}
use Rattle.std.proofs.Common.{◌≡◌, ℕ, zero, suc, ◌+◌, ◌<◌, ◌≤◌, Bool, true, false, ◌&&◌, ◌||◌, cond, refl, sym, ◌∙◌, ap, subst, arith, ◌⊎◌, inl, inr, List, [], ◌∷◌, ◌++◌, length, length-append, get_or, take}
use Rattle.std.proofs.lemmas.Bool.Decides.{nat_tests}
use Rattle.std.proofs.lemmas.List.{take_more, get_or_push}
use Rattle.std.proofs.Math.ListN.{get_or-append}
use Rattle.std.specs.List.{All, remove}
use Rattle.std.specs.Cmp.Derive.{both_true}
use Rattle.bdd.specs.Tree.{Tree, Leaf, Branch, holds, IsNormal, Point}
use Rattle.bdd.specs.Diagram.{Diagram, IsValid, tree, function_of, IsCanonical, Keeps, IsConstant, IsConjunction, IsDisjunction, ref_at}
use Rattle.bdd.specs.declared.Ref.{Ref}
use Rattle.bdd.proofs.TreeLemmas.{with_var, with_var_same}
use Rattle.primes.specs.Prime.{Function, Literal, Product, lies_in, suits, IsRising, IsPrime, in_some}
use Rattle.primes.proofs.PrimeLemmas.{IsFreeOf, suits_self, lies_with_var}
use Rattle.cover.specs.Sums.{IsWithin, IsLiteralRef, IsProductRef, IsSumRef, AreSumsBefore}
use Rattle.cover.proofs.CoverLemmas.{in_some_append}

-- a tree reads only variables below n
holds_below : (t : Tree) (n k : ℕ) (p q : Point) → IsNormal n k t → ((w : ℕ) → w < n → p w ≡ q w) → holds t p ≡ holds t q
holds_below (Leaf b) n k p q h e = refl
holds_below (Branch v low high) n k p q h e = (λ i. cond (e v h.1 i) (holds_below high n (v + 1) p q h.4 e i) (holds_below low n (v + 1) p q h.3 e i))

with_var_before : (p : Point) (v : ℕ) (b : Bool) (w : ℕ) → w < v → p w ≡ with_var p v b w
with_var_before p v b w h = grind (arith, nat_tests)

pub free_above : (d : Diagram) (f : Ref) → IsCanonical d → IsValid d f → (w : ℕ) → d.vars ≤ w → IsFreeOf (function_of d f) w
free_above d f c v w le b p = holds_below (tree d f) d.vars 0 p (with_var p w b) (c.normal f v) (λ u lt. with_var_before p w b u (omega arith))

rising_at : (t : Product) (j k : ℕ) (d : Literal) → IsRising j t → k < length t → j ≤ (get_or t k d).0
rising_at [] j k d r l = absurd (omega arith)
rising_at (x ∷ t) j zero d r l = r.0
rising_at (x ∷ t) j (suc k) d r l = let h = rising_at t (x.0 + 1) k d r.1 (omega arith) in omega (arith, r.0)

-- a point in the product without a literal, moved to where that literal holds, is in the product
lies_put : (t : Product) (j k : ℕ) (d : Literal) (p : Point) → IsRising j t → k < length t → lies_in (remove t k) p ≡ true
    → lies_in t (with_var p (get_or t k d).0 (get_or t k d).1) ≡ true
lies_put [] j k d p r l m = absurd (omega arith)
lies_put (x ∷ t) j zero d p r l m =
    both_true (ap (λ c. suits c x.1) (with_var_same p x.0 x.1) ∙ suits_self x.1) (sym (lies_with_var t x.0 x.1 p r.1) ∙ m)
lies_put (x ∷ t) j (suc k) d p r l m =
    let g = get_or t k d in
    let lt : x.0 < g.0 = omega (arith, rising_at t (x.0 + 1) k d r.1 (omega arith)) in
    both_true (ap (λ c. suits c x.1) (sym (with_var_before p g.0 g.1 x.0 lt)) ∙ (and_parts (suits (p x.0) x.1) (lies_in (remove t k) p) m).0)
    (lies_put t (x.0 + 1) k d p r.1 (omega arith) (and_parts (suits (p x.0) x.1) (lies_in (remove t k) p) m).1)

-- a prime has no literal of a place that the function is free of
pub prime_within : (f : Function) (n : ℕ) (t : Product) → ((w : ℕ) → n ≤ w → IsFreeOf f w) → IsPrime f t → IsWithin n t
prime_within f n t free h = record {
  each = λ k d l. elim (cases n (get_or t k d).0) [
    | inl lt ↦ lt
    | inr le ↦ absurd (h.largest k l (λ p m. free (get_or t k d).0 le (get_or t k d).1 p ∙ h.implicant (with_var p (get_or t k d).0 (get_or t k d).1) (lies_put t 0 k d p h.rising l m)))
  ];
}
  where
    cases : (n w : ℕ) → (w < n) ⊎ (n ≤ w)
    cases n w = grind arith

-- refs go on naming their functions
pub product_kept : (d e : Diagram) (t : Product) (r : Ref) → Keeps d e → IsProductRef d t r → IsProductRef e t r
product_kept d e t r k h = record { valid = k.valid r h.valid; means = λ p. ap (λ u. holds u p) (k.tree r h.valid) ∙ h.means p }

pub sum_kept : (d e : Diagram) (ts : List Product) (r : Ref) → Keeps d e → IsSumRef d ts r → IsSumRef e ts r
sum_kept d e ts r k h = record { valid = k.valid r h.valid; means = λ p. ap (λ u. holds u p) (k.tree r h.valid) ∙ h.means p }

pub sums_kept : (d e : Diagram) (ts : List Product) (n : ℕ) (rs : List Ref) → Keeps d e → AreSumsBefore d ts n rs → AreSumsBefore e ts n rs
sums_kept d e ts n rs k h = record { count = h.count; each = λ i l. sum_kept d e (take i ts) (ref_at rs i) k (h.each i l) }

-- the empty product and the empty sum
pub product_none : (d : Diagram) (r : Ref) → IsConstant d true r → IsProductRef d [] r
product_none d r c = record { valid = c.valid; means = λ p. ap (λ u. holds u p) c.tree }

pub sum_none : (d : Diagram) (r : Ref) → IsConstant d false r → IsSumRef d [] r
sum_none d r c = record { valid = c.valid; means = λ p. ap (λ u. holds u p) c.tree }

lies_push : (t : Product) (l : Literal) (p : Point) → lies_in (t ++ l ∷ []) p ≡ (lies_in t p && suits (p l.0) l.1)
lies_push [] l p = by (suits (p l.0) l.1)
  where
    by : (b : Bool) → (b && true) ≡ b
    by true = refl
    by false = refl
lies_push (x ∷ t) l p = by (suits (p x.0) x.1) (lies_push t l p)
  where
    by : (b : Bool) → lies_in (t ++ l ∷ []) p ≡ (lies_in t p && suits (p l.0) l.1) → (b && lies_in (t ++ l ∷ []) p) ≡ ((b && lies_in t p) && suits (p l.0) l.1)
    by true h = h
    by false h = refl

-- one literal more
pub product_more : (d e a : Diagram) (t : Product) (i : ℕ) (l : Literal) (r s u : Ref) → i < length t → Keeps d e → IsProductRef d (take i t) r
    → IsLiteralRef e (get_or t i l).0 (get_or t i l).1 s → IsConjunction e a r s u → IsProductRef a (take (i + 1) t) u
product_more d e a t i l r s u lt k h x c = record {
  valid = c.valid;
  means = λ p. c.means p ∙ (λ j. (product_kept d e (take i t) r k h).means p j && x.means p j) ∙ sym (lies_push (take i t) (get_or t i l) p)
      ∙ ap (λ (w : Product). lies_in w p) (sym (take_more t i l lt));
}

in_some_push : (ts : List Product) (t : Product) (p : Point) → in_some (ts ++ t ∷ []) p ≡ (in_some ts p || lies_in t p)
in_some_push ts t p = in_some_append ts (t ∷ []) p ∙ by (in_some ts p) (lies_in t p)
  where
    by : (a b : Bool) → (a || (b || false)) ≡ (a || b)
    by true b = refl
    by false true = refl
    by false false = refl

-- one product more at the end
pub sum_more : (d e a : Diagram) (ts : List Product) (i : ℕ) (t : Product) (r s u : Ref) → i < length ts → t ≡ get_or ts i t → Keeps d e → IsSumRef d (take i ts) r → IsProductRef e t s
    → IsDisjunction e a r s u → IsSumRef a (take (i + 1) ts) u
sum_more d e a ts i t r s u lt at k h x c = record {
  valid = c.valid;
  means = λ p. c.means p ∙ (λ j. (sum_kept d e (take i ts) r k h).means p j || x.means p j) ∙ sym (in_some_push (take i ts) t p)
      ∙ ap (λ (w : List Product). in_some w p) (ap (λ (y : Product). take i ts ++ y ∷ []) at ∙ sym (take_more ts i t lt));
}

-- one sum more
pub sums_more : (d : Diagram) (ts : List Product) (n : ℕ) (rs : List Ref) (r : Ref) → AreSumsBefore d ts n rs → IsSumRef d (take n ts) r → AreSumsBefore d ts (n + 1) (rs ++ r ∷ [])
sums_more d ts n rs r h s = record {
  count = omega (arith, h.count, length-append rs (r ∷ []));
  each = λ i l. elim (cases i l) [
    | inl m ↦ subst (IsSumRef d (take i ts)) (sym (get_or-append rs (r ∷ []) (record { 0 = 0 }) i (omega (arith, h.count)))) (h.each i m)
    | inr e ↦ subst (λ j. IsSumRef d (take j ts) (ref_at (rs ++ r ∷ []) j)) (sym e) (subst (IsSumRef d (take n ts)) (sym (get_or_push rs r (record { 0 = 0 }) n h.count)) s)
  ];
}
  where
    cases : (i : ℕ) → i < n + 1 → (i < n) ⊎ (i ≡ n)
    cases i l = grind arith

-- a product at a place of a list
pub within_at : (n m : ℕ) (ts : List Product) (i : ℕ) (t : Product) → m ≡ n → i < length ts → t ≡ get_or ts i t → All (IsWithin n) ts → IsWithin m t
within_at n m ts i t e lt at h = subst (λ x. IsWithin x t) (sym e) (subst (IsWithin n) (sym at) (h i t lt))

-- one product more at the front
pub sum_front : (d e a : Diagram) (ts : List Product) (t : Product) (r s u : Ref) → Keeps d e → IsSumRef d ts r → IsProductRef e t s → IsDisjunction e a r s u → IsSumRef a (t ∷ ts) u
sum_front d e a ts t r s u k h x c = record {
  valid = c.valid;
  means = λ p. c.means p ∙ (λ j. (sum_kept d e ts r k h).means p j || x.means p j) ∙ by (in_some ts p) (lies_in t p);
}
  where
    by : (a b : Bool) → (a || b) ≡ (b || a)
    by true true = refl
    by true false = refl
    by false true = refl
    by false false = refl
