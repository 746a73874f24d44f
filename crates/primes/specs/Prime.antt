-- The primes of a function, as sets of points.
use Rattle.std.specs.Prelude.{◌≡◌, ◌≢◌, ◌↔◌, ℕ, ◌+◌, ◌<◌, ◌≤◌, Bool, true, false, not, ◌&&◌, ◌||◌, List, [], ◌∷◌, length}
use Rattle.std.specs.declared.cmp.Ordering.{Ordering}
use Rattle.std.specs.declared.cmp.Ordering.TheVariants.{Less}
use Rattle.std.specs.Ordering.{nat_cmp, bool_cmp, ordering_then}
use Rattle.std.specs.Cmp.Lexicographic.{slice_cmp}
use Rattle.std.specs.List.{All, AllPairs, Contains, remove}
use Rattle.bdd.specs.Tree.{Point}

-- the points where a function holds
abbrev pub Function : Type 0
Function = Point → Bool

-- a literal: its place, and whether it is plain or negated
abbrev pub Literal : Type 0
Literal = ℕ × Bool

-- a product, by its literals
abbrev pub Product : Type 0
Product = List Literal

-- a place has the value that a literal asks for: true if it is plain, false if it is negated
abbrev pub suits : Bool → Bool → Bool
suits value true = value
suits value false = not value

-- a point lies in a product: all literals hold there
abbrev pub lies_in : Product → Point → Bool
lies_in [] p = true
lies_in (l ∷ t) p = suits (p l.0) l.1 && lies_in t p

-- a point lies in one of the products
abbrev pub in_some : List Product → Point → Bool
in_some [] p = false
in_some (t ∷ ts) p = lies_in t p || in_some ts p

-- each point where the function holds lies in one of the products
abbrev pub Covers : Function → List Product → Type 0
Covers f ts = (p : Point) → f p ≡ true → in_some ts p ≡ true

-- the places of the literals rise from k on
abbrev pub IsRising : ℕ → Product → Type 0
IsRising k [] = Unit {0}
IsRising k (l ∷ t) = (k ≤ l.0) × IsRising (l.0 + 1) t

-- the product is true nowhere outside the function
abbrev pub IsImplicant : Function → Product → Type 0
IsImplicant f t = (p : Point) → lies_in t p ≡ true → f p ≡ true

-- a product inside the function that is no longer inside it when any one literal is taken out
pub record IsPrime (f : Function) (t : Product) : Type 0 where
  pub rising : IsRising 0 t
  pub implicant : IsImplicant f t
  pub largest : (i : ℕ) → i < length t → IsImplicant f (remove t i) → ⊥

-- literals in order: by place, plain before negated
abbrev pub literal_cmp : Literal → Literal → Ordering
literal_cmp k l = ordering_then (nat_cmp k.0 l.0) (bool_cmp l.1 k.1)

-- products in order: by number of literals, then by the list of literals
abbrev pub product_cmp : Product → Product → Ordering
product_cmp t u = ordering_then (nat_cmp (length t) (length u)) (slice_cmp literal_cmp t u)

-- the list of all primes of a function, each once, in order
pub record IsPrimeList (f : Function) (ts : List Product) : Type 0 where
  pub ordered : AllPairs (λ t u. product_cmp t u ≡ Less) ts
  pub exact : (t : Product) → Contains ts t ↔ IsPrime f t

-- the function has more primes than n: a list of some of them, no two the same, is longer
pub record HasMorePrimes (f : Function) (n : ℕ) : Type 0 where
  pub primes : List Product
  pub distinct : AllPairs (λ t u. t ≢ u) primes
  pub each : All (IsPrime f) primes
  pub more : n < length primes
