-- What the private steps of a `Rails` say.
use Rattle.std.specs.Prelude.{◌≡◌, ℕ, ◌+◌, ◌-◌, ◌<◌, ◌≤◌, Bool, true, List, slice_get, Some, IfSome}
use Rattle.std.specs.List.{list_any}
use Rattle.bdd.specs.Tree.{Point}
use Rattle.mig_base.specs.declared.nets.Var.{Var}
use Rattle.mig_base.specs.declared.nets.VarLit.{VarLit}
use Rattle.rails.specs.declared.Side.{Side}
use Rattle.rails.specs.declared.Side.TheVariants.{Pure, High, Low}
use Rattle.rails.specs.declared.Rail.{Rail}
use Rattle.rails.specs.Variables.{same_var}
use Rattle.rails.specs.Points.{carries, ReadsPure}

-- the Boolean that an impure variable's Boolean is swapped with stands next to it
abbrev pub IsPairedBy : List Rail → ℕ → Rail → Side → Type 0
IsPairedBy rs n r Pure = Unit {0}
IsPairedBy rs n r High = slice_get rs (n + 1) ≡ Some (record { var = r.var; variable = r.variable; side = Low })
IsPairedBy rs n r Low = (1 ≤ n) × (slice_get rs (n - 1) ≡ Some (record { var = r.var; variable = r.variable; side = High }))

pub record ArePaired (rs : List Rail) : Type 0 where
  pub each : (n : ℕ) → IfSome (slice_get rs n) (λ r. IsPairedBy rs n r r.side)

abbrev pub IsPureSide : Side → Type 0
IsPureSide Pure = Unit {0}
IsPureSide High = ⊥
IsPureSide Low = ⊥

-- where v has a pure Boolean, g depends on no Boolean of an impure variable
pub record CanTake (rs : List Rail) (v : Var) (g : Point → Bool) : Type 0 where
  pub pure : (n : ℕ) → IfSome (slice_get rs n) (λ r. same_var r.var v ≡ true → IsPureSide r.side → ReadsPure rs g)

-- the Boolean that the mirrored one of a place is read off is one of n
abbrev pub IsWithin : ℕ → ℕ → Side → Type 0
IsWithin n place Pure = Unit {0}
IsWithin n place High = place + 1 < n
IsWithin n place Low = 1 ≤ place

-- the literal is read off one of the Booleans
abbrev pub IsCarried : List Rail → VarLit → Type 0
IsCarried rs x = list_any (carries x) rs ≡ true

-- each Boolean is of one of n variables
pub record AreNumbered (n : ℕ) (rs : List Rail) : Type 0 where
  pub each : (i : ℕ) → IfSome (slice_get rs i) (λ r. r.variable < n)
