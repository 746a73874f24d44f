-- The primes of a choice, by those of its sides and of what they share.
use Rattle.std.proofs.lemmas.Bool.{and_parts}
use Rattle.std.proofs.Common.{◌≡◌, ℕ, zero, suc, ◌+◌, ◌<◌, ◌≤◌, Bool, true, false, ◌&&◌, cond, refl, sym, ◌∙◌, ap, arith, nat_eq, ◌⊎◌, inl, inr, [], ◌∷◌, length, true≢false}
use Rattle.std.specs.List.{remove}
use Rattle.std.specs.Cmp.Derive.{both_true}
use Rattle.bdd.proofs.TreeLemmas.{with_var, with_var_same, with_var_other}
use Rattle.bdd.specs.Tree.{Point}
use Rattle.primes.specs.Prime.{Product, Function, suits, lies_in, IsRising, IsImplicant, IsPrime}

pub suits_self : (b : Bool) → suits b b ≡ true
suits_self true = refl
suits_self false = refl

pub suits_true : (a b : Bool) → suits a b ≡ true → a ≡ b
suits_true true true h = refl
suits_true false true h = h
suits_true true false h = sym h
suits_true false false h = refl

-- a product from k on reads only places from k on
lies_agree : (t : Product) (k : ℕ) (p q : Point) → IsRising k t → ((w : ℕ) → k ≤ w → p w ≡ q w) → lies_in t p ≡ lies_in t q
lies_agree [] k p q r e = refl
lies_agree (l ∷ t) k p q r e = (λ i. suits (e l.0 r.0 i) l.1 && lies_agree t (l.0 + 1) p q r.1 (λ w le. e w (omega arith)) i)

pub lies_with_var : (t : Product) (v : ℕ) (b : Bool) (p : Point) → IsRising (v + 1) t → lies_in t p ≡ lies_in t (with_var p v b)
lies_with_var t v b p r = lies_agree t (v + 1) p (with_var p v b) r (λ w l. with_var_other p v b w (omega arith))

pub rising_weaken : (t : Product) (j k : ℕ) → j ≤ k → IsRising k t → IsRising j t
rising_weaken [] j k l r = tt
rising_weaken (x ∷ t) j k l r = (omega arith, r.1)

-- taking a literal out leaves a product from k on
rising_remove : (t : Product) (k i : ℕ) → IsRising k t → IsRising k (remove t i)
rising_remove [] k zero r = tt
rising_remove [] k (suc i) r = tt
rising_remove (x ∷ t) k zero r = rising_weaken t k (x.0 + 1) (omega arith) r.1
rising_remove (x ∷ t) k (suc i) r = (r.0, rising_remove t (x.0 + 1) i r.1)

-- a function that does not change with the place w
abbrev pub IsFreeOf : Function → ℕ → Type 0
IsFreeOf f w = (b : Bool) (p : Point) → f p ≡ f (with_var p w b)

-- the choice by v between two functions
abbrev pub choice : ℕ → Function → Function → Function
choice v low high p = cond (p v) (high p) (low p)

abbrev pub both : Function → Function → Function
both low high p = low p && high p

module _ (v : ℕ) (low high : Function) (low_free : IsFreeOf low v) (high_free : IsFreeOf high v) where
  at_low : (p : Point) → choice v low high (with_var p v false) ≡ low p
  at_low p = ap (λ c. cond c (high (with_var p v false)) (low (with_var p v false))) (with_var_same p v false) ∙ sym (low_free false p)

  at_high : (p : Point) → choice v low high (with_var p v true) ≡ high p
  at_high p = ap (λ c. cond c (high (with_var p v true)) (low (with_var p v true))) (with_var_same p v true) ∙ sym (high_free true p)

  -- without v: inside the choice exactly where inside both sides
  pub inside_both : (t : Product) → IsRising (v + 1) t → IsImplicant (choice v low high) t → IsImplicant (both low high) t
  inside_both t r h p m =
      both_true
      (sym (at_low p) ∙ h (with_var p v false) (sym (lies_with_var t v false p r) ∙ m))
      (sym (at_high p) ∙ h (with_var p v true) (sym (lies_with_var t v true p r) ∙ m))

  pub both_inside : (t : Product) → IsImplicant (both low high) t → IsImplicant (choice v low high) t
  both_inside t h p m = by (p v)
    where
      by : (b : Bool) → cond b (high p) (low p) ≡ true
      by true = (and_parts (low p) (high p) (h p m)).1
      by false = (and_parts (low p) (high p) (h p m)).0

  -- with v false: inside the choice exactly where the rest is inside the low side
  pub inside_low : (t : Product) → IsRising (v + 1) t → IsImplicant (choice v low high) ((v, false) ∷ t) → IsImplicant low t
  inside_low t r h p m =
      sym (at_low p) ∙ h (with_var p v false)
      (both_true (ap (λ b. suits b false) (with_var_same p v false)) (sym (lies_with_var t v false p r) ∙ m))

  pub low_inside : (t : Product) → IsImplicant low t → IsImplicant (choice v low high) ((v, false) ∷ t)
  low_inside t h p m =
      let e : p v ≡ false = suits_true (p v) false (and_parts (suits (p v) false) (lies_in t p) m).0 in
      ap (λ b. cond b (high p) (low p)) e ∙ h p (and_parts (suits (p v) false) (lies_in t p) m).1

  pub inside_high : (t : Product) → IsRising (v + 1) t → IsImplicant (choice v low high) ((v, true) ∷ t) → IsImplicant high t
  inside_high t r h p m =
      sym (at_high p) ∙ h (with_var p v true)
      (both_true (ap (λ b. suits b true) (with_var_same p v true)) (sym (lies_with_var t v true p r) ∙ m))

  pub high_inside : (t : Product) → IsImplicant high t → IsImplicant (choice v low high) ((v, true) ∷ t)
  high_inside t h p m =
      let e : p v ≡ true = suits_true (p v) true (and_parts (suits (p v) true) (lies_in t p) m).0 in
      ap (λ b. cond b (high p) (low p)) e ∙ h p (and_parts (suits (p v) true) (lies_in t p) m).1

  -- the primes without v are those of what the sides share
  pub prime_both : (t : Product) → IsRising (v + 1) t → IsPrime (choice v low high) t → IsPrime (both low high) t
  prime_both t r h = record {
    rising = h.rising;
    implicant = inside_both t r h.implicant;
    largest = λ i l m. h.largest i l (both_inside (remove t i) m);
  }

  pub both_prime : (t : Product) → IsRising (v + 1) t → IsPrime (both low high) t → IsPrime (choice v low high) t
  both_prime t r h = record {
    rising = h.rising;
    implicant = both_inside t h.implicant;
    largest = λ i l m. h.largest i l (inside_both (remove t i) (rising_remove t (v + 1) i r) m);
  }

  -- the primes with v false are the primes of the low side that do not lie inside both
  pub prime_low : (t : Product) → IsRising (v + 1) t → IsPrime (choice v low high) ((v, false) ∷ t) → IsPrime low t
  prime_low t r h = record {
    rising = rising_weaken t 0 (v + 1) (omega arith) r;
    implicant = inside_low t r h.implicant;
    largest = λ i l m. h.largest (suc i) (omega arith) (low_inside (remove t i) m);
  }

  pub prime_low_apart : (t : Product) → IsPrime (choice v low high) ((v, false) ∷ t) → IsPrime (both low high) t → ⊥
  prime_low_apart t h b = h.largest 0 (omega arith) (both_inside t b.implicant)

  -- a prime of one side that is inside both is a prime of both
  prime_of_both : (t : Product) → IsPrime low t → IsImplicant (both low high) t → IsPrime (both low high) t
  prime_of_both t h m = record {
    rising = h.rising;
    implicant = m;
    largest = λ i l k. h.largest i l (λ p e. (and_parts (low p) (high p) (k p e)).0);
  }

  pub low_prime : (t : Product) → IsRising (v + 1) t → IsPrime low t → (IsPrime (both low high) t → ⊥) → IsPrime (choice v low high) ((v, false) ∷ t)
  low_prime t r h apart = record {
    rising = (omega arith, r);
    implicant = low_inside t h.implicant;
    largest = largest;
  }
    where
      largest : (i : ℕ) → i < length ((v, false) ∷ t) → IsImplicant (choice v low high) (remove ((v, false) ∷ t) i) → ⊥
      largest zero l m = apart (prime_of_both t h (inside_both t r m))
      largest (suc i) l m = h.largest i (omega arith) (inside_low (remove t i) (rising_remove t (v + 1) i r) m)

  pub prime_high : (t : Product) → IsRising (v + 1) t → IsPrime (choice v low high) ((v, true) ∷ t) → IsPrime high t
  prime_high t r h = record {
    rising = rising_weaken t 0 (v + 1) (omega arith) r;
    implicant = inside_high t r h.implicant;
    largest = λ i l m. h.largest (suc i) (omega arith) (high_inside (remove t i) m);
  }

  pub prime_high_apart : (t : Product) → IsPrime (choice v low high) ((v, true) ∷ t) → IsPrime (both low high) t → ⊥
  prime_high_apart t h b = h.largest 0 (omega arith) (both_inside t b.implicant)

  prime_of_both_high : (t : Product) → IsPrime high t → IsImplicant (both low high) t → IsPrime (both low high) t
  prime_of_both_high t h m = record {
    rising = h.rising;
    implicant = m;
    largest = λ i l k. h.largest i l (λ p e. (and_parts (low p) (high p) (k p e)).1);
  }

  pub high_prime : (t : Product) → IsRising (v + 1) t → IsPrime high t → (IsPrime (both low high) t → ⊥) → IsPrime (choice v low high) ((v, true) ∷ t)
  high_prime t r h apart = record {
    rising = (omega arith, r);
    implicant = high_inside t h.implicant;
    largest = largest;
  }
    where
      largest : (i : ℕ) → i < length ((v, true) ∷ t) → IsImplicant (choice v low high) (remove ((v, true) ∷ t) i) → ⊥
      largest zero l m = apart (prime_of_both_high t h (inside_both t r m))
      largest (suc i) l m = h.largest i (omega arith) (inside_high (remove t i) (rising_remove t (v + 1) i r) m)

-- a function free of each place below v has no prime with a literal below v
pub prime_from : (f : Function) (v : ℕ) (t : Product) → ((w : ℕ) → w < v → IsFreeOf f w) → IsPrime f t → IsRising v t
prime_from f v [] free h = tt
prime_from f v ((w, b) ∷ t) free h = elim (cases w v) [ inl l ↦ absurd (h.largest 0 (omega arith) (drops l)) | inr l ↦ (l, h.rising.1) ]
  where
    cases : (w v : ℕ) → (w < v) ⊎ (v ≤ w)
    cases w v = grind arith

    drops : w < v → IsImplicant f t
    drops l p m = free w l b p ∙ h.implicant (with_var p w b)
        (both_true (ap (λ c. suits c b) (with_var_same p w b) ∙ suits_self b) (sym (lies_with_var t w b p h.rising.1) ∙ m))

-- a point inside a product
pub point_in : Product → Point
point_in [] w = false
point_in (l ∷ t) w = cond (nat_eq w l.0) l.1 (point_in t w)

pub point_in_lies : (t : Product) (k : ℕ) → IsRising k t → lies_in t (point_in t) ≡ true
unfolding point_in
point_in_lies [] k r = refl
point_in_lies (l ∷ t) k r =
    both_true (ap (λ c. suits c l.1) (with_var_same (point_in t) l.0 l.1) ∙ suits_self l.1)
    (sym (lies_with_var t l.0 l.1 (point_in t) r.1) ∙ point_in_lies t (l.0 + 1) r.1)

-- the constants
pub no_prime_of_false : (t : Product) → IsPrime (λ _. false) t → ⊥
no_prime_of_false t h = true≢false (sym (h.implicant (point_in t) (point_in_lies t 0 h.rising)))

pub prime_of_true : (t : Product) → IsPrime (λ _. true) t → t ≡ []
prime_of_true [] h = refl
prime_of_true (l ∷ t) h = absurd (h.largest 0 (omega arith) (λ p m. refl))

pub true_prime : IsPrime (λ _. true) []
true_prime = record { rising = tt; implicant = λ p m. refl; largest = λ i l m. omega arith }
