-- Which boards are accepted.
use Rattle.std.specs.Prelude.{ℕ, zero, suc, ◌≡◌, Bool, true, false, [], Some, slice_get}
use Rattle.mig_base.specs.declared.circuit.Read.{Read}
use Rattle.mig_base.specs.declared.circuit.Register.{Register}
use Rattle.mig_base.specs.declared.circuit.NetKind.{NetKind}
use Rattle.mig_base.specs.declared.circuit.Wire.{Wire}
use Rattle.mig_base.specs.declared.circuit.Circuit.{Circuit}
use Rattle.mig_base.specs.declared.circuit.NetKind.TheVariants.{Ground, Power, Handed, Shared, Inner}
use Rattle.mig_base.specs.Among.{Among}
use Rattle.mig_base.specs.Reads.{node_reads}

-- a walk of this many steps and one more, each to a node that is read
abbrev pub Walk : Circuit → ℕ → Read → Read → Type 0
Walk c zero v w = Among w (node_reads c v)
Walk c (suc n) v w = (mid : Read) × Among mid (node_reads c v) × Walk c n mid w

-- an Input port or a constant
abbrev pub is_fixed : NetKind → Bool
is_fixed Ground = true
is_fixed Power = true
is_fixed (Handed place) = true
is_fixed (Shared place) = false
is_fixed Inner = false

-- no Input port and no constant net has a driver, each clock net is one of these, and no node reads itself over any way
pub record IsAccepted (c : Circuit) : Type 0 where
  pub driven : (n : ℕ) (w : Wire) → slice_get c.nets n ≡ Some w → is_fixed w.kind ≡ true → w.drivers ≡ []
  pub clocks : (k : ℕ) (r : Register) → slice_get c.registers k ≡ Some r → (w : Wire) × (slice_get c.nets r.clock ≡ Some w) × (is_fixed w.kind ≡ true)
  pub no_loop : (v : Read) (n : ℕ) → Walk c n v v → ⊥
