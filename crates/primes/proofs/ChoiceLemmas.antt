-- The primes of a choice: all of them, some of them, and more of them than a number.
use Rattle.std.proofs.Common.{refl, ◌≡◌, ℕ, ◌+◌, ◌<◌, ◌≤◌, Bool, true, false, ◌&&◌, cond, sym, ◌∙◌, ap, subst, arith, ◌⊎◌, inl, inr, List, [], ◌∷◌, ◌++◌, length, length-append, true≢false}
use Rattle.std.specs.Cmp.Derive.{both_true}
use Rattle.bdd.proofs.TreeLemmas.{with_var_other}
use Rattle.bdd.specs.Tree.{Point}
use Rattle.primes.specs.Prime.{Product, Function, IsRising, IsPrime, lies_in, in_some, suits}
use Rattle.primes.specs.Steps.{apart, prefixed, combined, In, AreSomePrimes, AreAllPrimes, AreMorePrimes, has}
use Rattle.primes.proofs.PrimeLemmas.{choice, both, IsFreeOf, prime_both, both_prime, prime_low, prime_low_apart, low_prime, prime_high, prime_high_apart, high_prime, prime_from, suits_self}
use Rattle.primes.proofs.ListLemmas.{in_left, in_right, in_append, in_prefixed, of_prefixed, in_apart, of_apart, prime_ext, distinct_append, distinct_apart, distinct_prefixed, apart_length, length_prefixed, in_some_in, some_in, has_in, in_has}

-- the function f chooses by v between two functions of later places, which share the function s
pub record IsChoiceOf (v : ℕ) (low high shared f : Function) : Type 0 where
  pub is : (p : Point) → f p ≡ choice v low high p
  pub shares : (p : Point) → shared p ≡ both low high p
  pub low_free : (w : ℕ) → w < v + 1 → IsFreeOf low w
  pub high_free : (w : ℕ) → w < v + 1 → IsFreeOf high w

-- whether the first literal is plain
abbrev first_sign : Product → Bool
first_sign [] = false
first_sign (l ∷ t) = l.1

module _ (v : ℕ) (low high shared f : Function) (c : IsChoiceOf v low high shared f) where
  lf : IsFreeOf low v
  lf = c.low_free v (omega arith)

  hf : IsFreeOf high v
  hf = c.high_free v (omega arith)

  whole : (t : Product) → IsPrime (choice v low high) t → IsPrime f t
  whole t h = prime_ext (choice v low high) f t (λ p. sym (c.is p)) h

  parts : (t : Product) → IsPrime f t → IsPrime (choice v low high) t
  parts t h = prime_ext f (choice v low high) t c.is h

  of_shared : (t : Product) → IsPrime shared t → IsPrime (both low high) t
  of_shared t h = prime_ext shared (both low high) t c.shares h

  to_shared : (t : Product) → IsPrime (both low high) t → IsPrime shared t
  to_shared t h = prime_ext (both low high) shared t (λ p. sym (c.shares p)) h

  low_rises : (t : Product) → IsPrime low t → IsRising (v + 1) t
  low_rises t h = prime_from low (v + 1) t c.low_free h

  high_rises : (t : Product) → IsPrime high t → IsRising (v + 1) t
  high_rises t h = prime_from high (v + 1) t c.high_free h

  shared_rises : (t : Product) → IsPrime shared t → IsRising (v + 1) t
  shared_rises t h = prime_from (both low high) (v + 1) t (λ w l b p. (λ i. c.low_free w l b p i && c.high_free w l b p i)) (of_shared t h)

  f_rises : (t : Product) → IsPrime f t → IsRising v t
  f_rises t h = prime_from (choice v low high) v t free (parts t h)
    where
      free : (w : ℕ) → w < v → IsFreeOf (choice v low high) w
      free w l b p = (λ i. cond (with_var_other p w b v l i) (c.high_free w (omega arith) b p i) (c.low_free w (omega arith) b p i))

  -- what the sides share gives primes of the whole
  pub shared_some : (ts : List Product) → AreSomePrimes shared ts → AreSomePrimes f ts
  shared_some ts s = record {
    distinct = s.distinct;
    sound = λ t h. whole t (both_prime v low high lf hf t (shared_rises t (s.sound t h)) (of_shared t (s.sound t h)));
  }

  module _ (ss : List Product) (all : AreAllPrimes shared ss) (ls hs : List Product) (some_low : AreSomePrimes low ls) (some_high : AreSomePrimes high hs) where
    plain_sound : (t : Product) → In t (prefixed (v, true) (apart ss hs)) → IsPrime f t
    plain_sound t a =
        let k = of_prefixed (v, true) t (apart ss hs) a in
        let d = of_apart ss hs k.rest k.there_is in
        let g = some_high.sound k.rest d.0 in
        subst (IsPrime f) (sym k.is) (whole ((v, true) ∷ k.rest)
        (high_prime v low high lf hf k.rest (high_rises k.rest g) g (λ b. d.1 (all.complete k.rest (to_shared k.rest b)))))

    negated_sound : (t : Product) → In t (prefixed (v, false) (apart ss ls)) → IsPrime f t
    negated_sound t a =
        let k = of_prefixed (v, false) t (apart ss ls) a in
        let d = of_apart ss ls k.rest k.there_is in
        let g = some_low.sound k.rest d.0 in
        subst (IsPrime f) (sym k.is) (whole ((v, false) ∷ k.rest)
        (low_prime v low high lf hf k.rest (low_rises k.rest g) g (λ b. d.1 (all.complete k.rest (to_shared k.rest b)))))

    -- a product with v is none of those that the sides share
    not_shared : (b : Bool) (ts : List Product) (t : Product) → In t (prefixed (v, b) ts) → In t ss → ⊥
    not_shared b ts t a s =
        let k = of_prefixed (v, b) t ts a in
        let r : IsRising (v + 1) ((v, b) ∷ k.rest) = subst (IsRising (v + 1)) k.is (shared_rises t (all.some.sound t s)) in
        absurd (omega (arith, r.0))

    not_both : (t : Product) → In t (prefixed (v, true) (apart ss hs)) → In t (prefixed (v, false) (apart ss ls)) → ⊥
    not_both t a b =
        let k = of_prefixed (v, true) t (apart ss hs) a in
        let l = of_prefixed (v, false) t (apart ss ls) b in
        let e : ((v, true) ∷ k.rest) ≡ ((v, false) ∷ l.rest) = sym k.is ∙ l.is in
        absurd (true≢false (ap first_sign e))

    pub combined_some : AreSomePrimes f (combined v ss ls hs)
    combined_some = record {
      distinct = distinct_append (prefixed (v, true) (apart ss hs)) (prefixed (v, false) (apart ss ls) ++ ss)
          (distinct_prefixed (v, true) (apart ss hs) (distinct_apart ss hs some_high.distinct))
          (distinct_append (prefixed (v, false) (apart ss ls)) ss (distinct_prefixed (v, false) (apart ss ls) (distinct_apart ss ls some_low.distinct)) all.some.distinct (not_shared false (apart ss ls)))
          (λ t a h. elim (in_append t (prefixed (v, false) (apart ss ls)) ss h) [ inl b ↦ not_both t a b | inr s ↦ not_shared true (apart ss hs) t a s ]);
      sound = λ t h.
          elim (in_append t (prefixed (v, true) (apart ss hs)) (prefixed (v, false) (apart ss ls) ++ ss) h) [
            | inl a ↦ plain_sound t a
            | inr r ↦ elim (in_append t (prefixed (v, false) (apart ss ls)) ss r) [
              | inl a ↦ negated_sound t a
              | inr s ↦ (shared_some ss all.some).sound t s
            ]
          ];
    }

    pub combined_long : (length ls ≤ length (combined v ss ls hs)) × (length hs ≤ length (combined v ss ls hs))
    combined_long =
        let a = apart_length ss ls some_low.distinct in
        let b = apart_length ss hs some_high.distinct in
        let c = length_prefixed (v, true) (apart ss hs) in
        let d = length_prefixed (v, false) (apart ss ls) in
        let e = length-append (prefixed (v, true) (apart ss hs)) (prefixed (v, false) (apart ss ls) ++ ss) in
        let g = length-append (prefixed (v, false) (apart ss ls)) ss in
        (omega arith, omega arith)

  none : (g : Function) → AreSomePrimes g []
  none g = record { distinct = tt; sound = λ t h. elim h [ ] }

  -- where a side has more primes than n, so has the whole
  pub more_shared : (n : ℕ) → AreMorePrimes shared n → AreMorePrimes f n
  more_shared n m = record { primes = m.primes; some = shared_some m.primes m.some; more = m.more }

  pub more_low : (ss : List Product) → AreAllPrimes shared ss → (n : ℕ) → AreMorePrimes low n → AreMorePrimes f n
  more_low ss all n m = record {
    primes = combined v ss m.primes [];
    some = combined_some ss all m.primes [] m.some (none high);
    more = omega (arith, m.more, (combined_long ss all m.primes [] m.some (none high)).0);
  }

  pub more_high : (ss : List Product) → AreAllPrimes shared ss → (n : ℕ) → AreMorePrimes high n → AreMorePrimes f n
  more_high ss all n m = record {
    primes = combined v ss [] m.primes;
    some = combined_some ss all [] m.primes (none low) m.some;
    more = omega (arith, m.more, (combined_long ss all [] m.primes (none low) m.some).1);
  }

  -- all primes of the sides, and of what they share, give all primes of the whole
  pub combined_all : (ss ls hs : List Product) → AreAllPrimes shared ss → AreAllPrimes low ls → AreAllPrimes high hs → AreAllPrimes f (combined v ss ls hs)
  combined_all ss ls hs s l h = record {
    some = combined_some ss s ls hs l.some h.some;
    complete = λ t p. complete t (f_rises t p) (parts t p);
    covers = λ p m. covered p (p v) refl (sym (c.is p) ∙ m);
  }
    where
      last_part : (t : Product) → In t ss → In t (combined v ss ls hs)
      last_part t k = in_right t (prefixed (v, true) (apart ss hs)) (prefixed (v, false) (apart ss ls) ++ ss) (in_right t (prefixed (v, false) (apart ss ls)) ss k)

      with_v : (b : Bool) (t : Product) → IsRising (v + 1) t → IsPrime (choice v low high) ((v, b) ∷ t) → In ((v, b) ∷ t) (combined v ss ls hs)
      with_v true t r p =
          in_left ((v, true) ∷ t) (prefixed (v, true) (apart ss hs)) (prefixed (v, false) (apart ss ls) ++ ss)
          (in_prefixed (v, true) t (apart ss hs) (in_apart ss hs t (h.complete t (prime_high v low high lf hf t r p))
          (λ k. prime_high_apart v low high lf hf t p (of_shared t (s.some.sound t k)))))
      with_v false t r p =
          in_right ((v, false) ∷ t) (prefixed (v, true) (apart ss hs)) (prefixed (v, false) (apart ss ls) ++ ss)
          (in_left ((v, false) ∷ t) (prefixed (v, false) (apart ss ls)) ss
          (in_prefixed (v, false) t (apart ss ls) (in_apart ss ls t (l.complete t (prime_low v low high lf hf t r p))
          (λ k. prime_low_apart v low high lf hf t p (of_shared t (s.some.sound t k))))))

      first_cases : (w : ℕ) → v ≤ w → (w ≡ v) ⊎ (v + 1 ≤ w)
      first_cases w k = grind arith

      complete : (t : Product) → IsRising v t → IsPrime (choice v low high) t → In t (combined v ss ls hs)
      complete [] r p = last_part [] (s.complete [] (to_shared [] (prime_both v low high lf hf [] tt p)))
      complete (x ∷ t) r p =
          elim (first_cases x.0 r.0) [
            | inl e ↦ subst (λ y. In ((y, x.1) ∷ t) (combined v ss ls hs)) (sym e)
                (with_v x.1 t (subst (λ y. IsRising (y + 1) t) e r.1) (subst (λ y. IsPrime (choice v low high) ((y, x.1) ∷ t)) e p))
            | inr g ↦ last_part (x ∷ t) (s.complete (x ∷ t) (to_shared (x ∷ t) (prime_both v low high lf hf (x ∷ t) (g, r.1) p)))
          ]

      -- a point in a prime of a side is in a prime of the whole
      side : (b : Bool) (p : Point) → p v ≡ b → (ts : List Product) (t : Product) → In t ts → lies_in t p ≡ true
          → ((u : Product) → In u (prefixed (v, b) (apart ss ts)) → In u (combined v ss ls hs)) → in_some (combined v ss ls hs) p ≡ true
      side b p e ts t k l put = by (has ss t) refl
        where
          by : (x : Bool) → has ss t ≡ x → in_some (combined v ss ls hs) p ≡ true
          by true a = in_some_in (combined v ss ls hs) t p (last_part t (has_in ss t a)) l
          by false a =
              in_some_in (combined v ss ls hs) ((v, b) ∷ t) p
              (put ((v, b) ∷ t) (in_prefixed (v, b) t (apart ss ts) (in_apart ss ts t k (λ n. true≢false (sym (in_has ss t n) ∙ a)))))
              (both_true (ap (λ x. suits x b) e ∙ suits_self b) l)

      covered : (p : Point) (b : Bool) → p v ≡ b → cond (p v) (high p) (low p) ≡ true → in_some (combined v ss ls hs) p ≡ true
      covered p true e m =
          let x = some_in hs p (h.covers p (sym (ap (λ b. cond b (high p) (low p)) e) ∙ m)) in
          side true p e hs x.0 x.1 x.2 (λ u k. in_left u (prefixed (v, true) (apart ss hs)) (prefixed (v, false) (apart ss ls) ++ ss) k)
      covered p false e m =
          let x = some_in ls p (l.covers p (sym (ap (λ b. cond b (high p) (low p)) e) ∙ m)) in
          side false p e ls x.0 x.1 x.2 (λ u k. in_right u (prefixed (v, true) (apart ss hs)) (prefixed (v, false) (apart ss ls) ++ ss) (in_left u (prefixed (v, false) (apart ss ls)) ss k))
