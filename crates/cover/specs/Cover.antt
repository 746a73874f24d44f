-- The cover of a function: what is left of its primes when those that are not needed are deleted, the last first.
use Rattle.std.specs.Prelude.{◌≡◌, ◌⊎◌, ℕ, ◌<◌, List, [], ◌∷◌, ◌++◌, length}
use Rattle.std.specs.List.{remove}
use Rattle.primes.specs.Prime.{Function, Product, IsPrimeList, Covers}

-- t is deleted where those before it and those left behind it cover the function, and is kept where they do not
abbrev pub IsDecided : Function → List Product → Product → List Product → List Product → Type 0
IsDecided f before t rest left =
    (Covers f (before ++ rest) × (left ≡ rest)) ⊎ ((Covers f (before ++ rest) → ⊥) × (left ≡ t ∷ rest))

-- what is left of the products ts, which stand behind others, when the last is decided first and the first last
abbrev pub IsLeft : Function → List Product → List Product → List Product → Type 0
IsLeft f before [] left = left ≡ []
IsLeft f before (t ∷ ts) left = (rest : List Product) × IsLeft f (before ++ t ∷ []) ts rest × IsDecided f before t rest left

-- the cover of a function: what is left of the list of its primes
pub record IsCover (f : Function) (ts : List Product) : Type 0 where
  pub primes : List Product
  pub all : IsPrimeList f primes
  pub left : IsLeft f [] primes ts

-- no product can be left out
abbrev pub IsIrredundant : Function → List Product → Type 0
IsIrredundant f ts = (i : ℕ) → i < length ts → Covers f (remove ts i) → ⊥
