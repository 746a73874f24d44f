-- Pure nodes: nets and registers that are always 0 or 1.
use Rattle.std.specs.Prelude.{ℕ, ◌≡◌, ◌&&◌, ◌||◌, Bool, true, false, List, [], ◌∷◌, length, Option, Some, None, slice_get}
use Rattle.std.specs.List.{list_all}
use Rattle.mig_base.specs.declared.circuit.Read.{Read}
use Rattle.mig_base.specs.declared.circuit.Read.TheVariants.{OfNet, OfRegister}
use Rattle.mig_base.specs.declared.circuit.Gate.{Gate}
use Rattle.mig_base.specs.declared.circuit.Gate.TheVariants.{Product}
use Rattle.mig_base.specs.declared.circuit.Driver.{Driver}
use Rattle.mig_base.specs.declared.circuit.Register.{Register}
use Rattle.mig_base.specs.declared.circuit.NetKind.{NetKind}
use Rattle.mig_base.specs.declared.circuit.NetKind.TheVariants.{Ground, Power, Handed, Shared, Inner}
use Rattle.mig_base.specs.declared.circuit.Wire.{Wire}
use Rattle.mig_base.specs.declared.circuit.Circuit.{Circuit}
use Rattle.mig_base.specs.Reads.{wire_reads, edge_reads}
use Rattle.mig_base.specs.WrittenBoard.{is_pulled}
use Rattle.structure.specs.declared.sets.NodeSet.{NodeSet}
use Rattle.structure.specs.NodeSets.{contains}

-- a row without literals is 1 whatever stands on the nets
abbrev pub is_always : Gate → Bool
is_always (Product []) = true
is_always _ = false

-- whether a unit is always enabled
abbrev pub always_enabled : Option Driver → Bool
always_enabled None = false
always_enabled (Some d) = is_always d.enable

-- without driver a net must be pulled; its only driver must be always enabled, or the net pulled, and all that it reads be
-- in the set; with more drivers it is not pure
abbrev pub pure_driven : Circuit → (Read → Bool) → Wire → List ℕ → Bool
pure_driven c set w [] = is_pulled w.pull
pure_driven c set w (u ∷ []) = (always_enabled (slice_get c.units u) || is_pulled w.pull) && list_all set (wire_reads c w)
pure_driven c set w _ = false

-- an Input port and a constant are pure, and a Both port is not
abbrev pub pure_kind : Circuit → (Read → Bool) → Wire → NetKind → Bool
pure_kind c set w Ground = true
pure_kind c set w Power = true
pure_kind c set w (Handed place) = true
pure_kind c set w (Shared place) = false
pure_kind c set w Inner = pure_driven c set w w.drivers

-- the rule for a net
abbrev pub pure_wire : Circuit → (Read → Bool) → Wire → Bool
pure_wire c set w = pure_kind c set w w.kind

-- the rule for a register: the sources of its terms, its preset and its reset are in the set
abbrev pub pure_register : (Read → Bool) → Register → Bool
pure_register set r = list_all set (edge_reads r)

abbrev pub net_rule : Circuit → (Read → Bool) → Option Wire → Bool
net_rule c set None = false
net_rule c set (Some w) = pure_wire c set w

abbrev pub register_rule : (Read → Bool) → Option Register → Bool
register_rule set None = false
register_rule set (Some r) = pure_register set r

-- the rule for a node, where the others are those of a set; what the board doesn't have is not pure
abbrev pub pure_rule : Circuit → (Read → Bool) → Read → Bool
pure_rule c set (OfNet n) = net_rule c set (slice_get c.nets n)
pure_rule c set (OfRegister k) = register_rule set (slice_get c.registers k)

-- each node of the set keeps the rule
abbrev pub IsPureSet : Circuit → (Read → Bool) → Type 0
IsPureSet c set = (v : Read) → set v ≡ true → pure_rule c set v ≡ true

-- a node is pure where some set keeps the rule and has it: the greatest such set is that of all pure nodes
abbrev pub IsPure : Circuit → Read → Type 0
IsPure c v = (set : Read → Bool) × IsPureSet c set × (set v ≡ true)

-- the set of a board's pure nodes
pub record IsPurity (c : Circuit) (s : NodeSet) : Type 0 where
  pub nets : length s.nets ≡ length c.nets
  pub registers : length s.registers ≡ length c.registers
  pub sound : (v : Read) → contains s v ≡ true → IsPure c v
  pub every : (v : Read) → IsPure c v → contains s v ≡ true
