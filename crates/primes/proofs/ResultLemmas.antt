-- The list in order, and the answers in the words of the contract.
use Rattle.std.proofs.Common.{◌≡◌, ◌≢◌, ℕ, zero, suc, ◌+◌, ◌<◌, ◌≤◌, false, cond, refl, sym, ◌∙◌, ap, subst, arith, List, [], ◌∷◌, length, get_or, true≢false, Result, Ok, Err, IfErr}
use Rattle.std.specs.Prelude.{IsErrAnd}
use Rattle.std.specs.declared.cmp.Ordering.{Ordering}
use Rattle.std.specs.declared.cmp.Ordering.TheVariants.{Less, Equal, Greater}
use Rattle.std.specs.Ordering.{is_eq, is_lt, ordering_reverse}
use Rattle.std.specs.List.{AllPairs, Contains, sum_by}
use Rattle.std.specs.List.Sorted.{IsPermutation, IsSortedBy}
use Rattle.std.proofs.lemmas.List.Sorted.{IsPermutation-sym, Contains-permutation, sum_by-IsPermutation, sorted_far, ranks_by}
use Rattle.std.proofs.lemmas.List.Elements.{All-contains}
use Rattle.std.proofs.lemmas.List.Sums.{sum_by-cons}
use Rattle.std.proofs.lemmas.Cmp.{tied_itself}
use Rattle.primes.specs.declared.PrimeError.{PrimeError}
use Rattle.primes.specs.declared.PrimeError.TheVariants.{Over, Memory}
use Rattle.primes.specs.Prime.{Product, Function, IsPrime, product_cmp, IsPrimeList, HasMorePrimes, Covers}
use Rattle.primes.specs.Refusal.{IsRefusal}
use Rattle.primes.specs.Steps.{In, here, there, AreDistinct, AreAllPrimes, AreMorePrimes, IsGivenUp}
use Rattle.primes.proofs.ListLemmas.{product_same, product_cmp-total, some_at_most, in_some_in, some_in}

-- being in a list, by places
in_at : (ts : List Product) (k : ℕ) (d : Product) → k < length ts → In (get_or ts k d) ts
in_at [] k d l = absurd (omega arith)
in_at (t ∷ ts) zero d l = here
in_at (t ∷ ts) (suc k) d l = there (in_at ts k d (omega arith))

pub in_contains : (t : Product) (ts : List Product) → In t ts → Contains ts t
in_contains t [] h = elim h [ ]
in_contains t (u ∷ ts) here = (0, omega arith, refl)
in_contains t (u ∷ ts) (there h) = let c = in_contains t ts h in (suc c.0, omega arith, c.2)

pub contains_in : (t : Product) (ts : List Product) → Contains ts t → In t ts
contains_in t ts c = subst (λ u. In u ts) c.2 (in_at ts c.0 t c.1)

-- no product stands twice, by places
pub distinct_pairs : (ts : List Product) → AreDistinct ts → AllPairs (λ t u. t ≢ u) ts
distinct_pairs [] a i j d l m = absurd (omega arith)
distinct_pairs (t ∷ ts) a zero zero d l m = absurd (omega arith)
distinct_pairs (t ∷ ts) a zero (suc j) d l m = λ e. a.0 (subst (λ u. In u ts) (sym e) (in_at ts j d (omega arith)))
distinct_pairs (t ∷ ts) a (suc i) zero d l m = absurd (omega arith)
distinct_pairs (t ∷ ts) a (suc i) (suc j) d l m = distinct_pairs ts a.1 i j d (omega arith) (omega arith)

pub pairs_distinct : (ts : List Product) → AllPairs (λ t u. t ≢ u) ts → AreDistinct ts
pairs_distinct [] p = tt
pairs_distinct (t ∷ ts) p = (
  (λ h. let c = in_contains t ts h in p 0 (suc c.0) t (omega arith) (omega arith) (sym c.2)),
  pairs_distinct ts (λ i j d l m. p (suc i) (suc j) d (omega arith) (omega arith)),
)

-- 1 for a product that is t, and 0 for another
abbrev one_if : Ordering → ℕ
one_if o = cond (is_eq o) 1 0

-- how often a product stands in a list
abbrev count : Product → List Product → ℕ
count t ts = sum_by (λ u. one_if (product_cmp u t)) ts

count_cons : (t u : Product) (ts : List Product) → count t (u ∷ ts) ≡ one_if (product_cmp u t) + count t ts
count_cons t u ts = sum_by-cons (λ u. one_if (product_cmp u t)) u ts

count_self : (t : Product) → one_if (product_cmp t t) ≡ 1
count_self t = ap one_if (tied_itself product_cmp-total t)

count_none : (t : Product) (ts : List Product) → (In t ts → ⊥) → count t ts ≡ 0
count_none t [] n = refl
count_none t (u ∷ ts) n = count_cons t u ts ∙ by (product_cmp u t) refl (count_none t ts (λ h. n (there h)))
  where
    by : (o : Ordering) → product_cmp u t ≡ o → count t ts ≡ 0 → one_if o + count t ts ≡ 0
    by Less e h = omega arith
    by Equal e h = absurd (n (subst (λ x. In t (x ∷ ts)) (sym (product_same u t e)) here))
    by Greater e h = omega arith

count_once : (t : Product) (ts : List Product) → AreDistinct ts → count t ts ≤ 1
count_once t [] a = omega arith
count_once t (u ∷ ts) a = subst (λ n. n ≤ 1) (sym (count_cons t u ts)) (by (product_cmp u t) refl (count_once t ts a.1))
  where
    by : (o : Ordering) → product_cmp u t ≡ o → count t ts ≤ 1 → one_if o + count t ts ≤ 1
    by Less e h = omega arith
    by Equal e h = let n = count_none t ts (subst (λ x. In x ts → ⊥) (product_same u t e) a.0) in omega arith
    by Greater e h = omega arith

count_at : (ts : List Product) (k : ℕ) (d : Product) → k < length ts → 1 ≤ count (get_or ts k d) ts
count_at [] k d l = absurd (omega arith)
count_at (t ∷ ts) zero d l = omega (arith, count_self t, count_cons t t ts)
count_at (t ∷ ts) (suc k) d l = omega (arith, count_at ts k d (omega arith), count_cons (get_or ts k d) t ts)

count_two : (ts : List Product) (i j : ℕ) (d : Product) → i < j → j < length ts → get_or ts i d ≡ get_or ts j d → 2 ≤ count (get_or ts i d) ts
count_two [] i j d l m e = absurd (omega arith)
count_two (t ∷ ts) i zero d l m e = absurd (omega arith)
count_two (t ∷ ts) zero (suc j) d l m e =
    let h = subst (λ u. 1 ≤ count u ts) (sym e) (count_at ts j d (omega arith)) in
    omega (arith, count_self t, h, count_cons t t ts)
count_two (t ∷ ts) (suc i) (suc j) d l m e = omega (arith, count_two ts i j d (omega arith) (omega arith) e, count_cons (get_or ts i d) t ts)

-- all primes, each once, are the list of primes when they are put in order
pub sorted_primes : (f : Function) (ts zs : List Product) → AreAllPrimes f ts → IsPermutation ts zs → IsSortedBy (λ t u. is_lt (product_cmp t u)) zs → IsPrimeList f zs
sorted_primes f ts zs a moved up = record {
  ordered = λ i j d l m. by i j d l m (product_cmp (get_or zs j d) (get_or zs i d)) refl;
  exact = λ t. (
    (λ c. a.some.sound t (contains_in t ts (Contains-permutation zs ts t (IsPermutation-sym ts zs moved) c))),
    (λ p. Contains-permutation ts zs t moved (in_contains t ts (a.complete t p))),
  );
}
  where
    by : (i j : ℕ) (d : Product) → i < j → j < length zs → (o : Ordering) → product_cmp (get_or zs j d) (get_or zs i d) ≡ o → product_cmp (get_or zs i d) (get_or zs j d) ≡ Less
    by i j d l m Less e =
        let h : is_lt (product_cmp (get_or zs j d) (get_or zs i d)) ≡ false = sorted_far (λ t u. is_lt (product_cmp t u)) (ranks_by product_cmp-total (λ t. t)) zs up i j d (omega arith) m in
        absurd (true≢false (sym (ap is_lt e) ∙ h))
    by i j d l m Equal e =
        let two = count_two zs i j d l m (sym (product_same (get_or zs j d) (get_or zs i d) e)) in
        let same = sum_by-IsPermutation (λ u. one_if (product_cmp u (get_or zs i d))) ts zs moved in
        let once = count_once (get_or zs i d) ts a.some.distinct in
        absurd (omega arith)
    by i j d l m Greater e = product_cmp-total.antisymm (get_or zs i d) (get_or zs j d) ∙ ap ordering_reverse e

-- no more primes than a list of all has
pub few : (f : Function) (ts : List Product) (n : ℕ) → AreAllPrimes f ts → length ts ≤ n → HasMorePrimes f n → ⊥
few f ts n a l m =
    let h = some_at_most f ts m.primes a (record {
      distinct = pairs_distinct m.primes m.distinct;
      sound = λ t k. All-contains (IsPrime f) m.primes t m.each (in_contains t m.primes k);
    }) in
    absurd (omega (arith, m.more))

pub more : (f : Function) (n : ℕ) → AreMorePrimes f n → HasMorePrimes f n
more f n m = record {
  primes = m.primes;
  distinct = distinct_pairs m.primes m.some.distinct;
  each = λ k d l. m.some.sound (get_or m.primes k d) (in_at m.primes k d l);
  more = m.more;
}

pub refused : {T : Type 0} (r : Result T PrimeError) (e : PrimeError) (f : Function) (n : ℕ) → IsErrAnd r (λ x. x ≡ e) → IsGivenUp f n e → IfErr r (IsRefusal f n)
refused (Ok x) e f n h g = tt
refused (Err (Over m)) (Over k) f n h g = (cc, more f n g.1)
refused (Err (Over m)) Memory f n h g = cc
refused (Err Memory) e f n h g = tt

-- the primes in order cover the function
pub sorted_covers : (f : Function) (ts zs : List Product) → AreAllPrimes f ts → IsPermutation ts zs → Covers f zs
sorted_covers f ts zs a moved p m =
    let x = some_in ts p (a.covers p m) in
    in_some_in zs x.0 p (contains_in x.0 zs (Contains-permutation ts zs x.0 moved (in_contains x.0 ts x.1))) x.2
