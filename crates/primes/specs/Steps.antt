-- The lists of primes that are found on the way.
use Rattle.std.specs.Prelude.{◌≡◌, ℕ, ◌<◌, ◌≤◌, Bool, true, false, if◌then◌else◌, List, [], ◌∷◌, ◌++◌, length}
use Rattle.std.specs.Ordering.{is_eq}
use Rattle.std.specs.List.{list_any}
use Rattle.primes.specs.declared.PrimeError.{PrimeError}
use Rattle.primes.specs.declared.PrimeError.TheVariants.{Over, Memory}
use Rattle.primes.specs.Prime.{Literal, Product, Function, product_cmp, Covers, IsPrime}

-- a product is one of a list
abbrev pub has : List Product → Product → Bool
has us t = list_any (λ u. is_eq (product_cmp u t)) us

-- those of the products ts that us has not
abbrev pub apart : List Product → List Product → List Product
apart us [] = []
apart us (t ∷ ts) = if has us t then apart us ts else t ∷ apart us ts

-- each product with a literal put first
abbrev pub prefixed : Literal → List Product → List Product
prefixed l [] = []
prefixed l (t ∷ ts) = (l ∷ t) ∷ prefixed l ts

-- the primes of a choice by v: those with v plain, those with v negated, and those of what its sides share
abbrev pub combined : ℕ → List Product → List Product → List Product → List Product
combined v shared lows highs = prefixed (v, true) (apart shared highs) ++ (prefixed (v, false) (apart shared lows) ++ shared)

-- t is one of ts
pub data In (t : Product) : List Product → Type 0 where
  here : {us : List Product} → In t (t ∷ us)
  there : {u : Product} {us : List Product} → In t us → In t (u ∷ us)

-- no product stands twice
abbrev pub AreDistinct : List Product → Type 0
AreDistinct [] = Unit {0}
AreDistinct (t ∷ ts) = (In t ts → ⊥) × AreDistinct ts

-- some primes of a function, each once
pub record AreSomePrimes (f : Function) (ts : List Product) : Type 0 where
  pub distinct : AreDistinct ts
  pub sound : (t : Product) → In t ts → IsPrime f t

-- all primes of a function, each once; they cover it
pub record AreAllPrimes (f : Function) (ts : List Product) : Type 0 where
  pub some : AreSomePrimes f ts
  pub complete : (t : Product) → IsPrime f t → In t ts
  pub covers : Covers f ts

-- the function has more primes than n
pub record AreMorePrimes (f : Function) (n : ℕ) : Type 0 where
  pub primes : List Product
  pub some : AreSomePrimes f primes
  pub more : n < length primes

-- a search has found all primes, and at most n
pub record AreFound (f : Function) (n : ℕ) (ts : List Product) : Type 0 where
  pub all : AreAllPrimes f ts
  pub few : length ts ≤ n

-- a search was given up: the function has more primes than n, or there is no memory
abbrev pub IsGivenUp : Function → ℕ → PrimeError → Type 0
IsGivenUp f n (Over m) = (m ≡ n) × AreMorePrimes f n
IsGivenUp f n Memory = Unit {0}
