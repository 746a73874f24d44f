-- Sets that a sweep over all nodes makes smaller until each node keeps the rule of pure nodes.
use Rattle.std.specs.Prelude.{ℕ, ◌≡◌, ◌+◌, true, length}
use Rattle.mig_base.specs.declared.circuit.Read.{Read}
use Rattle.mig_base.specs.declared.circuit.Read.TheVariants.{OfNet, OfRegister}
use Rattle.mig_base.specs.declared.circuit.Circuit.{Circuit}
use Rattle.structure.specs.declared.sets.NodeSet.{NodeSet}
use Rattle.structure.specs.NodeSets.{contains, trues}
use Rattle.structure.specs.Pure.{IsPure, pure_rule}

-- a set of nodes of this board that has all pure ones
pub record IsAbove (c : Circuit) (s : NodeSet) : Type 0 where
  pub nets : length s.nets ≡ length c.nets
  pub registers : length s.registers ≡ length c.registers
  pub every : (v : Read) → IsPure c v → contains s v ≡ true

-- how many nodes are in a set
abbrev pub size : NodeSet → ℕ
size s = trues s.nets + trues s.registers

-- a node of a set keeps the rule
abbrev pub IsKept : Circuit → NodeSet → Read → Type 0
IsKept c s v = contains s v ≡ true → pure_rule c (contains s) v ≡ true

abbrev pub KeepsNets : Circuit → NodeSet → Type 0
KeepsNets c s = (n : ℕ) → IsKept c s (OfNet n)

abbrev pub KeepsRegisters : Circuit → NodeSet → Type 0
KeepsRegisters c s = (k : ℕ) → IsKept c s (OfRegister k)

-- all nodes of a set keep it
abbrev pub KeepsRule : Circuit → NodeSet → Type 0
KeepsRule c s = (v : Read) → IsKept c s v
