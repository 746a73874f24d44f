-- The lists of primes that a search has found so far.
use Rattle.std.specs.Prelude.{ℕ, List, IfSome}
use Rattle.std.specs.HashMap.{HashMap, get}
use Rattle.bdd.specs.Diagram.{Diagram, IsValid, function_of}
use Rattle.bdd.specs.declared.Ref.{Ref}
use Rattle.bdd.specs.contracts.RefPartialEq.TheImpl as ref_eq
use Rattle.primes.specs.Prime.{Product}
use Rattle.primes.specs.Steps.{AreFound}

-- ts are the primes of the ref f
pub record IsKnown (d : Diagram) (n : ℕ) (f : Ref) (ts : List Product) : Type 0 where
  pub valid : IsValid d f
  pub found : AreFound (function_of d f) n ts

-- each list that is kept has the primes of its ref
pub record AreKnown {V S : Type 0} (items : V → List Product) (d : Diagram) (n : ℕ) (known : HashMap Ref V S) : Type 0 where
  pub each : (f : Ref) → IfSome (get (ref_eq.ghosts).eq known f) (λ v. IsKnown d n f (items v))
