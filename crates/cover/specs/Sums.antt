-- Products and sums of products as functions of a graph.
use Rattle.std.specs.Prelude.{◌≡◌, ℕ, ◌<◌, Bool, List, length, take}
use Rattle.bdd.specs.Diagram.{Diagram, IsValid, function_of, ref_at}
use Rattle.bdd.specs.Tree.{Point}
use Rattle.bdd.specs.declared.Ref.{Ref}
use Rattle.primes.specs.Prime.{Product, Literal, lies_in, suits, in_some}
use Rattle.std.specs.List.{All}

-- each place of the product is a variable of the graph
pub record IsWithin (n : ℕ) (t : Product) : Type 0 where
  pub each : All (λ (l : Literal). l.0 < n) t

-- r is the function of a literal
pub record IsLiteralRef (d : Diagram) (v : ℕ) (plain : Bool) (r : Ref) : Type 0 where
  pub valid : IsValid d r
  pub means : (p : Point) → function_of d r p ≡ suits (p v) plain

-- r is the function of the product
pub record IsProductRef (d : Diagram) (t : Product) (r : Ref) : Type 0 where
  pub valid : IsValid d r
  pub means : (p : Point) → function_of d r p ≡ lies_in t p

-- r is the function of the sum of the products
pub record IsSumRef (d : Diagram) (ts : List Product) (r : Ref) : Type 0 where
  pub valid : IsValid d r
  pub means : (p : Point) → function_of d r p ≡ in_some ts p

-- the ref at each place is the sum of the products before that place
pub record AreSumsBefore (d : Diagram) (ts : List Product) (n : ℕ) (rs : List Ref) : Type 0 where
  pub count : length rs ≡ n
  pub each : (i : ℕ) → i < n → IsSumRef d (take i ts) (ref_at rs i)
