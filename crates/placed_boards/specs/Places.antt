-- A new board that places units of an old one: what each new unit, register and net is, row by row.
use Rattle.std.specs.List.{list_all}
use Rattle.std.specs.Prelude.{ℕ, ◌≡◌, ◌⊎◌, ◌<◌, ltb, length, ◌&&◌, Bool, true, false, List, [], map, Option, Some, None, slice_get}
use Rattle.mig_base.specs.declared.levels.Level.{Level}
use Rattle.mig_base.specs.declared.circuit.Read.{Read}
use Rattle.mig_base.specs.declared.circuit.Read.TheVariants.{OfNet, OfRegister}
use Rattle.mig_base.specs.declared.circuit.Gives.{Gives}
use Rattle.mig_base.specs.declared.circuit.Gives.TheVariants.{Sum, Visible}
use Rattle.mig_base.specs.declared.circuit.Driver.{Driver}
use Rattle.mig_base.specs.declared.circuit.Register.{Register}
use Rattle.mig_base.specs.declared.circuit.NetKind.TheVariants.{Inner}
use Rattle.mig_base.specs.declared.circuit.Wire.{Wire}
use Rattle.mig_base.specs.declared.circuit.Circuit.{Circuit}
use Rattle.mig_base.specs.Among.{Among}
use Rattle.mig_base.specs.Reads.{node_reads, edge_reads}
use Rattle.mig_base.specs.Values.{inverted, row_reads, sum_reads}
use Rattle.structure.specs.Absorbable.{IsAbsorbable}
use Rattle.structure.specs.Live.{IsLiveSet, HasRegister}
use Rattle.fitting_levels.specs.NodeValues.{NodeLevels, gate_by, terms_by, logic_by}
use Rattle.fitting_levels.specs.Fitting.{AreFitting, IsAbsorbed, net_kind}
use Rattle.carried_boards.specs.Carries.{Numbers, old_node, through, variable_at, Floats, Kept}

abbrev pub sum_reads_of : Gives → List Read
sum_reads_of (Sum ts) = sum_reads ts
sum_reads_of (Visible k) = []

abbrev pub logic_reads_by : Option Driver → List Read
logic_reads_by None = []
logic_reads_by (Some d) = sum_reads_of d.gives

-- what the terms of a combinational unit read
abbrev pub logic_reads : Circuit → ℕ → List Read
logic_reads c u = logic_reads_by (slice_get c.units u)

-- the variable v is named where these nodes are read: it is that of one of them, or what an absorbed one's unit reads names it
pub data Named (c : Circuit) (absorbed : List ℕ) (v : Read) : List Read → Type 0 where
  itself : {reads : List Read} → (w : Read) → Among w reads → variable_at c w ≡ v → Named c absorbed v reads
  behind : {reads : List Read} → (n u : ℕ) → Among (OfNet n) reads → IsAbsorbed c absorbed n u → Named c absorbed v (logic_reads c u) → Named c absorbed v reads

-- a new part: it has the old level under all levels that fit, and all that it reads is named by the old part
pub record IsPart (a : Circuit) (absorbed : List ℕ) (old : Numbers) (level : NodeLevels → Level) (reads : List Read) (new_level : NodeLevels → Level) (new_reads : List Read) : Type 0 where
  pub same : (f : NodeLevels) → AreFitting a absorbed f → level f ≡ new_level (through old f)
  pub named : (w : Read) → Among w new_reads → Named a absorbed (variable_at a (old_node old w)) reads

abbrev pub GivesAlike : Circuit → List ℕ → Numbers → Driver → Driver → Gives → Gives → Type 0
GivesAlike a absorbed old d new (Sum ts) (Sum us) = IsPart a absorbed old (λ f. logic_by f d) (sum_reads ts) (λ f. logic_by f new) (sum_reads us)
GivesAlike a absorbed old d new (Visible k) (Visible j) = (k ≡ old.register j) × (d.low ≡ new.low)
GivesAlike a absorbed old d new (Sum ts) (Visible j) = ⊥
GivesAlike a absorbed old d new (Visible k) (Sum us) = ⊥

-- a new unit: its enable and its logic are those of its old one
pub record IsPlacedUnit (a : Circuit) (absorbed : List ℕ) (old : Numbers) (v : ℕ) (new : Driver) : Type 0 where
  pub driver : Driver
  pub found : slice_get a.units (old.unit v) ≡ Some driver
  pub enable : IsPart a absorbed old (λ f. gate_by f driver.enable) (row_reads driver.enable) (λ f. gate_by f new.enable) (row_reads new.enable)
  pub gives : GivesAlike a absorbed old driver new driver.gives new.gives

-- a new register: its D, its preset, its reset and its clock are those of its old one
pub record IsPlacedRegister (a b : Circuit) (absorbed : List ℕ) (old : Numbers) (k : ℕ) (new : Register) : Type 0 where
  pub register : Register
  pub found : slice_get a.registers (old.register k) ≡ Some register
  pub logic : IsPart a absorbed old (λ f. inverted register.low (terms_by f register.terms)) (sum_reads register.terms) (λ f. inverted new.low (terms_by f new.terms)) (sum_reads new.terms)
  pub preset : IsPart a absorbed old (λ f. gate_by f register.preset) (row_reads register.preset) (λ f. gate_by f new.preset) (row_reads new.preset)
  pub reset : IsPart a absorbed old (λ f. gate_by f register.reset) (row_reads register.reset) (λ f. gate_by f new.reset) (row_reads new.reset)
  pub clock : net_kind a register.clock ≡ net_kind b new.clock

-- a new net that stands for an old one: each live old driver that may drive has a new one, and each new driver stands for an old one
pub record IsPlacedNet (a b : Circuit) (absorbed : List ℕ) (live : ℕ → Bool) (old : Numbers) (m : ℕ) : Type 0 where
  pub wire : Wire
  pub new : Wire
  pub found : slice_get a.nets (old.net m) ≡ Some wire
  pub new_found : slice_get b.nets m ≡ Some new
  pub kind : wire.kind ≡ new.kind
  pub pull : wire.pull ≡ new.pull
  pub every : (u : ℕ) → Among u wire.drivers → live u ≡ true → Floats a b absorbed old u ⊎ ((v : ℕ) × Among v new.drivers × (old.unit v ≡ u))
  pub only : (v : ℕ) → Among v new.drivers → Among (old.unit v) wire.drivers

-- a net that stands for an old one, or a register
abbrev pub IsSeen : Circuit → (ℕ → Bool) → Read → Type 0
IsSeen b seen (OfNet m) = seen m ≡ true
IsSeen b seen (OfRegister k) = k < length b.registers

-- a: the old board, b: the new one; live: its live units, or more; owner: the unit of each old register; seen: the new nets that stand for old ones
pub record Places (a b : Circuit) (absorbed : List ℕ) (live : ℕ → Bool) (owner : ℕ → ℕ) (old : Numbers) (seen : ℕ → Bool) : Type 0 where
  pub absorbable : (u : ℕ) → Among u absorbed → IsAbsorbable a u
  pub live_set : IsLiveSet a live
  pub owners : (k : ℕ) → k < length a.registers → HasRegister k (slice_get a.units (owner k))
  pub nets : (m : ℕ) → seen m ≡ true → IsPlacedNet a b absorbed live old m
  pub others : (m : ℕ) (w : Wire) → slice_get b.nets m ≡ Some w → seen m ≡ false → (w.kind ≡ Inner) × (w.drivers ≡ [])
  pub units : (v : ℕ) (new : Driver) → slice_get b.units v ≡ Some new → IsPlacedUnit a absorbed old v new
  pub registers : (k : ℕ) (new : Register) → slice_get b.registers k ≡ Some new → IsPlacedRegister a b absorbed old k new
  pub reads : (v w : Read) → Among w (node_reads b v) → IsSeen b seen w
  pub edges : (k : ℕ) (r : Register) (w : Read) → slice_get b.registers k ≡ Some r → Among w (edge_reads r) → IsSeen b seen w
  pub ports : a.ports ≡ map old.net b.ports
  pub shown : (m : ℕ) → Among m b.ports → seen m ≡ true

abbrev pub all_live : (ℕ → Bool) → Option Wire → Bool
all_live live None = false
all_live live (Some w) = list_all live w.drivers

-- the nodes that have the levels of their old ones: nets that stand for nets with live drivers alone, and registers of live units
abbrev pub kept_of : Circuit → Circuit → (ℕ → Bool) → (ℕ → ℕ) → Numbers → (ℕ → Bool) → Kept
kept_of a b live owner old seen (OfNet m) = seen m && all_live live (slice_get a.nets (old.net m))
kept_of a b live owner old seen (OfRegister k) = ltb k (length b.registers) && live (owner (old.register k))
