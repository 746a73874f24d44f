-- The net that a unit drives.
use Rattle.std.specs.Prelude.{ℕ, Option, Some, None, slice_get}
use Rattle.mig_base.specs.declared.circuit.Circuit.{Circuit}
use Rattle.structure.specs.Live.{DrivesWire}

-- the net that has the unit among its drivers, or that there is none
abbrev pub IsDrivenNet : Circuit → ℕ → Option ℕ → Type 0
IsDrivenNet c u None = (n : ℕ) → DrivesWire u (slice_get c.nets n) → ⊥
IsDrivenNet c u (Some n) = DrivesWire u (slice_get c.nets n)
