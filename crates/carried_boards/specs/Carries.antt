-- A new board that carries an old one: what stands for what, and what it must keep.
use Rattle.std.specs.Prelude.{ℕ, ◌≡◌, ◌⊎◌, Bool, true, List, map, Some, slice_get}
use Rattle.std.specs.List.{AllByRecursion}
use Rattle.mig_base.specs.declared.levels.Level.{Level}
use Rattle.mig_base.specs.declared.levels.Level.TheVariants.{Z}
use Rattle.mig_base.specs.declared.circuit.Read.{Read}
use Rattle.mig_base.specs.declared.circuit.Read.TheVariants.{OfNet, OfRegister}
use Rattle.mig_base.specs.declared.circuit.Register.{Register}
use Rattle.mig_base.specs.declared.circuit.NetKind.TheVariants.{Inner}
use Rattle.mig_base.specs.declared.circuit.Wire.{Wire}
use Rattle.mig_base.specs.declared.circuit.Circuit.{Circuit}
use Rattle.mig_base.specs.Accepted.{Walk, is_fixed}
use Rattle.mig_base.specs.Among.{Among}
use Rattle.mig_base.specs.Reads.{node_reads, edge_reads}
use Rattle.mig_base.specs.Structure.{variable_literal}
use Rattle.structure.specs.Absorbable.{IsAbsorbable}
use Rattle.structure.specs.Live.{DrivesWire}
use Rattle.level_laws.specs.PureLevels.{HasPureStored}
use Rattle.fitting_levels.specs.NodeValues.{NodeLevels, drive_at, gate_by, taken_by}
use Rattle.fitting_levels.specs.Fitting.{AreFitting, net_kind}

-- the old numbers of the new board's nets, units and registers
pub record Numbers : Type 0 where
  pub net : ℕ → ℕ
  pub unit : ℕ → ℕ
  pub register : ℕ → ℕ

-- the old node that a new one stands for
abbrev pub old_node : Numbers → Read → Read
old_node old (OfNet m) = OfNet (old.net m)
old_node old (OfRegister k) = OfRegister (old.register k)

-- the new nodes at the levels of the old ones
abbrev pub through : Numbers → NodeLevels → NodeLevels
through old f v = f (old_node old v)

-- the variable of a node: an alias net is its register
abbrev pub variable_at : Circuit → Read → Read
variable_at c v = (variable_literal c (record { source = v; high = true })).source

abbrev pub IsAliasOf : Circuit → Read → Read → Type 0
IsAliasOf c (OfNet n) (OfRegister k) = variable_at c (OfNet n) ≡ OfRegister k
IsAliasOf c (OfNet n) (OfNet m) = ⊥
IsAliasOf c (OfRegister k) w = ⊥

-- w is the register of the alias net v, or its variable is read by that of v over some way
abbrev pub IsBelow : Circuit → Read → Read → Type 0
IsBelow c v w = IsAliasOf c v w ⊎ ((n : ℕ) × Walk c n (variable_at c v) (variable_at c w))

-- whether a new node has the level of its old one
abbrev pub Kept : Type 0
Kept = Read → Bool

abbrev pub IsKept : Kept → Read → Type 0
IsKept kept v = kept v ≡ true

module _ (a b : Circuit) (absorbed : List ℕ) (old : Numbers) where
  -- the new unit v drives what the old unit u does, under all levels that fit
  abbrev pub StandsFor : ℕ → ℕ → Type 0
  StandsFor v u = (f : NodeLevels) → AreFitting a absorbed f → drive_at a f u ≡ drive_at b (through old f) v

  -- the old unit u never drives its net, under all levels that fit
  abbrev pub Floats : ℕ → Type 0
  Floats u = (f : NodeLevels) → AreFitting a absorbed f → drive_at a f u ≡ Z

-- a new net: each old driver that may drive has a new one, and each new driver stands for an old one
pub record IsCarriedNet (a b : Circuit) (absorbed : List ℕ) (old : Numbers) (m : ℕ) : Type 0 where
  pub wire : Wire
  pub new : Wire
  pub found : slice_get a.nets (old.net m) ≡ Some wire
  pub new_found : slice_get b.nets m ≡ Some new
  pub kind : wire.kind ≡ new.kind
  pub pull : wire.pull ≡ new.pull
  pub every : (u : ℕ) → Among u wire.drivers → Floats a b absorbed old u ⊎ ((v : ℕ) × Among v new.drivers × StandsFor a b absorbed old v u)
  pub only : (v : ℕ) → Among v new.drivers → (u : ℕ) × Among u wire.drivers × StandsFor a b absorbed old v u

-- a new register: its reset and what it takes have the old levels, and its clock net is of the old kind
pub record IsCarriedRegister (a b : Circuit) (absorbed : List ℕ) (old : Numbers) (kept : Kept) (k : ℕ) : Type 0 where
  pub register : Register
  pub new : Register
  pub found : slice_get a.registers (old.register k) ≡ Some register
  pub new_found : slice_get b.registers k ≡ Some new
  pub reset : (f : NodeLevels) → AreFitting a absorbed f → gate_by f register.reset ≡ gate_by (through old f) new.reset
  pub takes : (f : NodeLevels) → AreFitting a absorbed f → taken_by f register ≡ taken_by (through old f) new
  pub reads : AllByRecursion (IsKept kept) (edge_reads new)
  pub clock : net_kind a register.clock ≡ net_kind b new.clock

-- a: the old board, b: the new one; absorbed: the old units that have no cell; kept: the new nodes that have the levels of their old ones
pub record Carries (a b : Circuit) (absorbed : List ℕ) (old : Numbers) (kept : Kept) : Type 0 where
  pub absorbable : (u : ℕ) → Among u absorbed → IsAbsorbable a u
  -- all nodes of the new board
  pub kinds : (m : ℕ) (w : Wire) → slice_get b.nets m ≡ Some w → (w.kind ≡ Inner) ⊎ (net_kind a (old.net m) ≡ Some w.kind)
  pub driven : (m v : ℕ) → DrivesWire v (slice_get b.nets m) → (u : ℕ) × DrivesWire u (slice_get a.nets (old.net m))
  pub clocks : (k : ℕ) (r : Register) → slice_get b.registers k ≡ Some r → (w : Wire) × (slice_get b.nets r.clock ≡ Some w) × (is_fixed w.kind ≡ true)
  pub falls : (v w : Read) → Among w (node_reads b v) → IsBelow a (old_node old v) (old_node old w)
  -- those that are kept
  pub closed : (v : Read) → IsKept kept v → AllByRecursion (IsKept kept) (node_reads b v)
  pub nets : (m : ℕ) → IsKept kept (OfNet m) → IsCarriedNet a b absorbed old m
  pub registers : (k : ℕ) → IsKept kept (OfRegister k) → IsCarriedRegister a b absorbed old kept k
  -- the ports
  pub ports : a.ports ≡ map old.net b.ports
  pub shown : (m : ℕ) → Among m b.ports → IsKept kept (OfNet m)

-- stored levels that belong together: those of kept registers are the old ones, and pure old registers store 0 or 1
pub record StoreAlike (a : Circuit) (old : Numbers) (kept : Kept) (sa sb : List Level) : Type 0 where
  pub same : (k : ℕ) → IsKept kept (OfRegister k) → slice_get sa (old.register k) ≡ slice_get sb k
  pub pure : HasPureStored a sa
