-- Live units: those on which a port or another live unit depends.
use Rattle.std.specs.Prelude.{ℕ, ◌≡◌, ◌<◌, Bool, true, false, ◌++◌, List, [], length, Option, Some, None, slice_get, slice_index_or}
use Rattle.mig_base.specs.declared.circuit.Read.{Read}
use Rattle.mig_base.specs.declared.circuit.Read.TheVariants.{OfNet, OfRegister}
use Rattle.mig_base.specs.declared.circuit.Gives.{Gives}
use Rattle.mig_base.specs.declared.circuit.Gives.TheVariants.{Sum, Visible}
use Rattle.mig_base.specs.declared.circuit.Driver.{Driver}
use Rattle.mig_base.specs.declared.circuit.Register.{Register}
use Rattle.mig_base.specs.declared.circuit.NetKind.{NetKind}
use Rattle.mig_base.specs.declared.circuit.NetKind.TheVariants.{Handed}
use Rattle.mig_base.specs.declared.circuit.Wire.{Wire}
use Rattle.mig_base.specs.declared.circuit.Circuit.{Circuit}
use Rattle.mig_base.specs.Among.{Among}
use Rattle.mig_base.specs.Values.{sum_reads, row_reads}
use Rattle.mig_base.specs.Reads.{edge_reads}

abbrev pub reads_at_edge : Option Register → List Read
reads_at_edge None = []
reads_at_edge (Some r) = edge_reads r

-- a combinational unit reads the sources of its terms, a registered one those of its terms, its preset and its reset
abbrev pub part_reads : Circuit → Gives → List Read
part_reads c (Sum terms) = sum_reads terms
part_reads c (Visible k) = reads_at_edge (slice_get c.registers k)

abbrev pub reads_of_unit : Circuit → Option Driver → List Read
reads_of_unit c None = []
reads_of_unit c (Some d) = row_reads d.enable ++ part_reads c d.gives

-- what a unit reads: these, and the sources of its enable
abbrev pub unit_reads : Circuit → ℕ → List Read
unit_reads c u = reads_of_unit c (slice_get c.units u)

abbrev pub DrivesWire : ℕ → Option Wire → Type 0
DrivesWire u None = ⊥
DrivesWire u (Some w) = Among u w.drivers

abbrev pub GivesQ : ℕ → Gives → Type 0
GivesQ k (Visible j) = j ≡ k
GivesQ k (Sum terms) = ⊥

abbrev pub HasRegister : ℕ → Option Driver → Type 0
HasRegister k None = ⊥
HasRegister k (Some d) = GivesQ k d.gives

-- a unit stands behind a net that it drives, and behind its register
abbrev pub StandsBehind : Circuit → ℕ → Read → Type 0
StandsBehind c u (OfNet n) = DrivesWire u (slice_get c.nets n)
StandsBehind c u (OfRegister k) = (k < length c.registers) × HasRegister k (slice_get c.units u)

abbrev pub NotHanded : NetKind → Type 0
NotHanded (Handed place) = ⊥
NotHanded _ = Unit {0}

abbrev pub WireNotHanded : Option Wire → Type 0
WireNotHanded None = ⊥
WireNotHanded (Some w) = NotHanded w.kind

-- an Output or Both port
abbrev pub IsShown : Circuit → ℕ → Type 0
IsShown c n = Among n c.ports × WireNotHanded (slice_get c.nets n)

-- a set of units that has those behind the Output and Both ports, and those behind all that its units read
pub record IsLiveSet (c : Circuit) (set : ℕ → Bool) : Type 0 where
  pub ports : (n u : ℕ) → IsShown c n → StandsBehind c u (OfNet n) → set u ≡ true
  pub reads : (u : ℕ) (v : Read) (w : ℕ) → set u ≡ true → Among v (unit_reads c u) → StandsBehind c w v → set w ≡ true

-- a unit is live where each such set has it: the least one is that of all live units
abbrev pub IsLive : Circuit → ℕ → Type 0
IsLive c u = (set : ℕ → Bool) → IsLiveSet c set → set u ≡ true

-- whether each unit of a board is live
pub record IsLiveness (c : Circuit) (live : List Bool) : Type 0 where
  pub units : length live ≡ length c.units
  pub sound : (u : ℕ) → slice_index_or live u false ≡ true → IsLive c u
  pub every : (u : ℕ) → u < length c.units → IsLive c u → slice_index_or live u false ≡ true
