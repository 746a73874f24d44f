-- The cover of a function of finitely many places is that function.
use Rattle.std.proofs.Common.{ℕ, zero, suc, ◌≡◌, ◌⊎◌, ◌<◌, ◌≤◌, ◌+◌, Bool, true, false, ◌&&◌, List, [], ◌∷◌, length, refl, sym, ap, ◌∙◌, subst, inl, inr, arith, get_or, true≢false}
use Rattle.std.specs.List.{AllByRecursion, remove}
use Rattle.std.proofs.lemmas.Bool.{and_from, and_parts, cases_eq}
use Rattle.std.proofs.lemmas.Bool.Decides.{nat_tests}
use Rattle.std.proofs.lemmas.List.Elements.{Contains-get_or, recursion_from_All}
use Rattle.bdd.proofs.TreeLemmas.{with_var}
use Rattle.bdd.specs.Tree.{Point}
use Rattle.mig_base.specs.Among.{Among}
use Rattle.mig_base.specs.First.{made_from}
use Rattle.mig_base.proofs.Amongs.{among-all}
use Rattle.primes.specs.Prime.{Function, Literal, Product, suits, lies_in, in_some, IsRising, IsImplicant, IsPrime, IsPrimeList, Covers}
use Rattle.primes.proofs.PrimeLemmas.{IsFreeOf, suits_self, suits_true, rising_weaken}
use Rattle.primes.proofs.ListLemmas.{in_some_in}
use Rattle.primes.proofs.ResultLemmas.{contains_in}
use Rattle.cover.specs.Cover.{IsCover}
use Rattle.cover.specs.Sums.{IsWithin}
use Rattle.cover.proofs.CoverLemmas.{left_covers, left_each, sum_is}
use Rattle.cover.proofs.SumLemmas.{prime_within}

-- the function reads no place from n on
abbrev pub ReadsBelow : ℕ → Function → Type 0
ReadsBelow n f = (p q : Point) → ((w : ℕ) → w < n → p w ≡ q w) → f p ≡ f q

-- the product of so many places from k on that a point alone lies in
abbrev minterm : Point → ℕ → ℕ → Product
minterm p k m = made_from (λ i. (i, p i)) k m

minterm-rising : (p : Point) (k m : ℕ) → IsRising k (minterm p k m)
minterm-rising p k zero = tt
minterm-rising p k (suc m) = (omega arith, minterm-rising p (k + 1) m)

minterm-lies : (p : Point) (k m : ℕ) → lies_in (minterm p k m) p ≡ true
minterm-lies p k zero = refl
minterm-lies p k (suc m) = and_from (suits (p k) (p k)) (lies_in (minterm p (k + 1) m) p) (suits_self (p k)) (minterm-lies p (k + 1) m)

minterm-same : (p q : Point) (k m : ℕ) → lies_in (minterm p k m) q ≡ true → (w : ℕ) → k ≤ w → w < k + m → q w ≡ p w
minterm-same p q k zero h w low high = absurd (omega arith)
minterm-same p q k (suc m) h w low high = at (cases_eq w k) (minterm-same p q (k + 1) m parts.1 w)
  where
    parts : (suits (q k) (p k) ≡ true) × (lies_in (minterm p (k + 1) m) q ≡ true)
    parts = and_parts (suits (q k) (p k)) (lies_in (minterm p (k + 1) m) q) h

    at : (w ≡ k) ⊎ (w ≡ k → ⊥) → (k + 1 ≤ w → w < (k + 1) + m → q w ≡ p w) → q w ≡ p w
    at (inl e) rest = ap q e ∙ suits_true (q k) (p k) parts.0 ∙ ap p (sym e)
    at (inr other) rest = rest (past k w low other) (omega arith)
      where
        past : (a b : ℕ) → a ≤ b → (b ≡ a → ⊥) → a + 1 ≤ b
        past a b l n = grind arith

shorter : (t : Product) (i : ℕ) → i < length t → length t ≡ suc (length (remove t i))
shorter [] i l = absurd (omega arith)
shorter (x ∷ t) zero l = refl
shorter (x ∷ t) (suc i) l = ap suc (shorter t i (omega arith))

remove-rising : (t : Product) (k i : ℕ) → IsRising k t → IsRising k (remove t i)
remove-rising [] k zero r = tt
remove-rising [] k (suc i) r = tt
remove-rising (x ∷ t) k zero r = rising_weaken t k (x.0 + 1) (omega (arith, r.0)) r.1
remove-rising (x ∷ t) k (suc i) r = (r.0, remove-rising t (x.0 + 1) i r.1)

remove-lies : (t : Product) (i : ℕ) (p : Point) → lies_in t p ≡ true → lies_in (remove t i) p ≡ true
remove-lies [] zero p h = refl
remove-lies [] (suc i) p h = refl
remove-lies (x ∷ t) zero p h = (and_parts (suits (p x.0) x.1) (lies_in t p) h).1
remove-lies (x ∷ t) (suc i) p h =
    let parts = and_parts (suits (p x.0) x.1) (lies_in t p) h in
    and_from (suits (p x.0) x.1) (lies_in (remove t i) p) parts.0 (remove-lies t i p parts.1)

-- a point of a product inside the function lies in a prime: literals are taken out until one is left that is prime
some-prime : (f : Function) (p : Point) → ((u : Product) → IsPrime f u → lies_in u p ≡ true → ⊥) → (n : ℕ) (t : Product) → length t ≡ n → IsRising 0 t → IsImplicant f t → lies_in t p ≡ true → ⊥
some-prime f p none zero t e rising inside lies = none t (record { rising = rising; implicant = inside; largest = λ i l k. absurd (omega (arith, e, l)) }) lies
some-prime f p none (suc n) t e rising inside lies = none t (record {
  rising = rising;
  implicant = inside;
  largest = λ i l k. some-prime f p none n (remove t i) (omega (arith, e, shorter t i l)) (remove-rising t 0 i rising) k (remove-lies t i p lies);
}) lies

primes-cover : (f : Function) (n : ℕ) → ReadsBelow n f → (ts : List Product) → IsPrimeList f ts → Covers f ts
primes-cover f n below ts all p h = at (in_some ts p) refl
  where
    inside : IsImplicant f (minterm p 0 n)
    inside q lies = below q p (λ w l. minterm-same p q 0 n lies w (omega arith) (omega (arith, l))) ∙ h

    none : in_some ts p ≡ false → (u : Product) → IsPrime f u → lies_in u p ≡ true → ⊥
    none e u prime lies = true≢false (sym (in_some_in ts u p (contains_in u ts ((all.exact u).1 prime)) lies) ∙ e)

    at : (q : Bool) → in_some ts p ≡ q → in_some ts p ≡ true
    at true e = e
    at false e = absurd (some-prime f p (none e) (length (minterm p 0 n)) (minterm p 0 n) refl (minterm-rising p 0 n) inside (minterm-lies p 0 n))

module _ (f : Function) (ts : List Product) (is : IsCover f ts) where
  all-primes : AllByRecursion (IsPrime f) ts
  all-primes = left_each (IsPrime f) f [] is.primes ts is.left
      (recursion_from_All (IsPrime f) is.primes (λ i x l. (is.all.exact (get_or is.primes i x)).0 (Contains-get_or is.primes i x l)))

  pub cover-primes : (t : Product) → Among t ts → IsPrime f t
  cover-primes t a = among-all (IsPrime f) t ts all-primes a

  pub cover-function : (n : ℕ) → ReadsBelow n f → (p : Point) → f p ≡ in_some ts p
  cover-function n below = sum_is f ts (insides ts all-primes) (left_covers f [] is.primes ts is.left (primes-cover f n below is.primes is.all))
    where
      insides : (us : List Product) → AllByRecursion (IsPrime f) us → AllByRecursion (IsImplicant f) us
      insides [] h = tt
      insides (u ∷ us) h = (h.0.implicant, insides us h.1)

  pub cover-within : (n : ℕ) → ReadsBelow n f → (t : Product) → Among t ts → IsWithin n t
  cover-within n below t a = prime_within f n t (λ w low b p. below p (with_var p w b) (λ v l. other p w b v (omega (arith, low, l)))) (cover-primes t a)
    where
      other : (p : Point) (w : ℕ) (b : Bool) (v : ℕ) → v < w → p v ≡ with_var p w b v
      other p w b v h = grind (arith, nat_tests)
