-- Absorbable units: combinational ones whose level is read through one net alone, which is no port.
use Rattle.std.specs.Prelude.{ℕ, ◌≡◌, ◌&&◌, Bool, true, false, List, [], ◌∷◌, length, Option, Some, None, slice_get, slice_index_or}
use Rattle.mig_base.specs.declared.circuit.Gives.{Gives}
use Rattle.mig_base.specs.declared.circuit.Gives.TheVariants.{Sum, Visible}
use Rattle.mig_base.specs.declared.circuit.Driver.{Driver}
use Rattle.mig_base.specs.declared.circuit.Wire.{Wire}
use Rattle.mig_base.specs.declared.circuit.Circuit.{Circuit}
use Rattle.mig_base.specs.Among.{Among}
use Rattle.structure.specs.Pure.{is_always}

abbrev pub is_sum : Gives → Bool
is_sum (Sum terms) = true
is_sum (Visible k) = false

-- a combinational unit that is always enabled
abbrev pub is_plain : Option Driver → Bool
is_plain None = false
is_plain (Some d) = is_always d.enable && is_sum d.gives

-- such a unit alone drives this net, which is no port
pub record AbsorbsAt (c : Circuit) (net u : ℕ) : Type 0 where
  pub wire : Wire
  pub on : slice_get c.nets net ≡ Some wire
  pub alone : wire.drivers ≡ u ∷ []
  pub no_port : Among net c.ports → ⊥
  pub plain : is_plain (slice_get c.units u) ≡ true

-- an absorbable unit is combinational, always enabled, and the only driver of its net, which is no port
abbrev pub IsAbsorbable : Circuit → ℕ → Type 0
IsAbsorbable c u = (net : ℕ) × AbsorbsAt c net u

-- whether each unit of a board is absorbable
pub record AreAbsorbable (c : Circuit) (absorbable : List Bool) : Type 0 where
  pub units : length absorbable ≡ length c.units
  pub sound : (u : ℕ) → slice_index_or absorbable u false ≡ true → IsAbsorbable c u
  pub every : (u : ℕ) → IsAbsorbable c u → slice_index_or absorbable u false ≡ true
