-- Live units so far, and the nodes that ports and these units need.
use Rattle.std.specs.Prelude.{ℕ, ◌≡◌, ◌<◌, ◌+◌, Bool, true, false, List, [], ◌∷◌, length, slice_get, slice_index_or}
use Rattle.mig_base.specs.declared.circuit.Read.{Read}
use Rattle.mig_base.specs.declared.circuit.Read.TheVariants.{OfNet, OfRegister}
use Rattle.mig_base.specs.declared.circuit.Circuit.{Circuit}
use Rattle.mig_base.specs.Among.{Among}
use Rattle.structure.specs.declared.liveness.Waking.{Waking}
use Rattle.structure.specs.declared.sets.NodeSet.{NodeSet}
use Rattle.structure.specs.NodeSets.{contains}
use Rattle.structure.specs.Live.{unit_reads, StandsBehind, WireNotHanded, IsLive}
use Rattle.mig_base.specs.Reads.{IsNode}

-- all units behind a node are live
abbrev pub IsNeeded : Circuit → Read → Type 0
IsNeeded c v = (u : ℕ) → StandsBehind c u v → IsLive c u

-- a set of needed nodes of this board that has those ports of the list that are Output or Both ports
pub record HasPorts (c : Circuit) (shown : List ℕ) (needed : NodeSet) : Type 0 where
  pub nets : length needed.nets ≡ length c.nets
  pub registers : length needed.registers ≡ length c.registers
  pub sound : (v : Read) → contains needed v ≡ true → IsNeeded c v
  pub ports : (n : ℕ) → Among n shown → WireNotHanded (slice_get c.nets n) → contains needed (OfNet n) ≡ true

-- needed nodes, among them all Output and Both ports
abbrev pub AreNeeded : Circuit → NodeSet → Type 0
AreNeeded c needed = HasPorts c c.ports needed

-- live units, and needed nodes, among them all that these units read
pub record IsWaking (c : Circuit) (m : Waking) : Type 0 where
  pub units : length m.live ≡ length c.units
  pub live : (u : ℕ) → slice_index_or m.live u false ≡ true → IsLive c u
  pub needed : AreNeeded c m.needed
  pub reads : (u : ℕ) (v : Read) → slice_index_or m.live u false ≡ true → Among v (unit_reads c u) → IsNode c v → contains m.needed v ≡ true

-- how many are false
abbrev pub falses : List Bool → ℕ
falses [] = 0
falses (true ∷ bs) = falses bs
falses (false ∷ bs) = 1 + falses bs

-- a unit of the board is marked as live; so is what the board doesn't have
abbrev pub is_awake : Waking → ℕ → Bool
is_awake m u = slice_index_or m.live u true

-- these units are marked
abbrev pub AreAwake : Waking → List ℕ → Type 0
AreAwake m us = (u : ℕ) → Among u us → is_awake m u ≡ true

-- all units behind a node are marked, if it is needed
abbrev pub NodeAwake : Circuit → Waking → Read → Type 0
NodeAwake c m v = contains m.needed v ≡ true → (u : ℕ) → StandsBehind c u v → is_awake m u ≡ true

abbrev pub NetsAwake : Circuit → Waking → Type 0
NetsAwake c m = (n : ℕ) → NodeAwake c m (OfNet n)

-- a unit is marked, if its register is needed
abbrev pub QAwake : Circuit → Waking → ℕ → Type 0
QAwake c m u = (k : ℕ) → contains m.needed (OfRegister k) ≡ true → StandsBehind c u (OfRegister k) → is_awake m u ≡ true

abbrev pub QsAwake : Circuit → Waking → Type 0
QsAwake c m = (u : ℕ) → QAwake c m u

-- all units behind needed nodes are marked
abbrev pub AllAwake : Circuit → Waking → Type 0
AllAwake c m = (v : Read) → NodeAwake c m v
