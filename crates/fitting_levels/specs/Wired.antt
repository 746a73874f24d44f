-- What holds of the nets, units and registers of each board that a wiring makes.
use Rattle.std.specs.Prelude.{ℕ, ◌≡◌, ◌<◌, length, true, Some, slice_get}
use Rattle.mig_base.specs.declared.circuit.Wire.{Wire}
use Rattle.mig_base.specs.declared.circuit.Circuit.{Circuit}
use Rattle.mig_base.specs.Among.{Among}
use Rattle.mig_base.specs.Structure.{is_shared}
use Rattle.structure.specs.Live.{DrivesWire, HasRegister}
use Rattle.level_laws.specs.PureLevels.{DriversAreUnits}

-- what each board of a wiring is: its drivers are units, a unit drives one net at most, a Both port is a port, and each
-- registered unit has a register of its own
pub record IsWired (c : Circuit) : Type 0 where
  pub units : DriversAreUnits c
  pub one_net : (n m u : ℕ) → DrivesWire u (slice_get c.nets n) → DrivesWire u (slice_get c.nets m) → n ≡ m
  pub shared : (n : ℕ) (w : Wire) → slice_get c.nets n ≡ Some w → is_shared w.kind ≡ true → Among n c.ports
  pub registers : (k u : ℕ) → HasRegister k (slice_get c.units u) → k < length c.registers
  pub one_unit : (k u w : ℕ) → HasRegister k (slice_get c.units u) → HasRegister k (slice_get c.units w) → u ≡ w
