-- Sets of a board's nodes, by net and by register.
use Rattle.std.specs.Prelude.{ℕ, ◌+◌, Bool, true, false, List, [], ◌∷◌, length, replicate, slice_index_or, slice_set}
use Rattle.mig_base.specs.declared.circuit.Read.{Read}
use Rattle.mig_base.specs.declared.circuit.Read.TheVariants.{OfNet, OfRegister}
use Rattle.mig_base.specs.declared.circuit.Circuit.{Circuit}
use Rattle.structure.specs.declared.sets.NodeSet.{NodeSet}

-- whether a node is in a set; what the board doesn't have is in none
abbrev pub contains : NodeSet → Read → Bool
contains s (OfNet n) = slice_index_or s.nets n false
contains s (OfRegister k) = slice_index_or s.registers k false

-- all nodes of a board, or none of them
abbrev pub every_node : Circuit → Bool → NodeSet
every_node c is_in = record { nets = replicate (length c.nets) is_in; registers = replicate (length c.registers) is_in }

-- a set with one more node of its board
abbrev pub with_node : NodeSet → Read → NodeSet
with_node s (OfNet n) = record { nets = slice_set s.nets n true; registers = s.registers }
with_node s (OfRegister k) = record { nets = s.nets; registers = slice_set s.registers k true }

-- a set with these nodes besides
abbrev pub with_nodes : NodeSet → List Read → NodeSet
with_nodes s [] = s
with_nodes s (v ∷ vs) = with_nodes (with_node s v) vs

-- how many are true
abbrev pub trues : List Bool → ℕ
trues [] = 0
trues (true ∷ bs) = 1 + trues bs
trues (false ∷ bs) = trues bs
