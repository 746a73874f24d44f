-- The leaves of a matching: one for each class, made at its first register, and then one for each handed port of the first board.
use Rattle.std.specs.Prelude.{ℕ, ◌≡◌, ◌+◌, ◌==◌, Bool, true, false, List, [], ◌∷◌, ◌++◌, length, map, filter, if◌then◌else◌, slice_index_or}
use Rattle.mig_base.specs.declared.nets.Net.{Net}
use Rattle.mig_base.specs.declared.nets.Port.{Port}
use Rattle.mig_base.specs.declared.nets.Port.TheVariants as port
use Rattle.mig_base.specs.Boards.{is_handed}
use Rattle.leaves.specs.declared.Leaf.{Leaf}
use Rattle.leaves.specs.declared.Range.{Range}
use Rattle.leaves.specs.declared.Range.TheVariants.{Bit, OrX, OrZ}
use Rattle.leaves.specs.Leaves.{leaves_from, width}
use Rattle.class_leaves.specs.Pures.{flag_at}
use Rattle.class_leaves.specs.declared.Leaves.{Leaves}

-- a class with a pure register has two levels
abbrev pub class_range : Bool → Range
class_range true = Bit
class_range false = OrX

abbrev pub leaf_at : List Leaf → ℕ → Leaf
leaf_at fs i = slice_index_or fs i (record { place = 0; range = Bit })

abbrev pub new_leaf : List Bool → ℕ → ℕ → Leaf
new_leaf bits place c = record { place = place; range = class_range (flag_at bits c) }

-- the leaf of the register behind these leaves: a new one for the first of its class, else that of the first
abbrev pub next_leaf : List Bool → ℕ → List Leaf → ℕ → Leaf
next_leaf bits place done c = if c == length done then new_leaf bits place c else leaf_at done c

abbrev pub next_place : List Bool → ℕ → List Leaf → ℕ → ℕ
next_place bits place done c = if c == length done then place + width (class_range (flag_at bits c)) else place

-- the leaves of registers of these classes, behind these leaves and from this variable on
abbrev pub class_leaves : List Bool → ℕ → List Leaf → List ℕ → List Leaf
class_leaves bits place done [] = []
class_leaves bits place done (c ∷ cs) =
    next_leaf bits place done c ∷ class_leaves bits (next_place bits place done c) (done ++ next_leaf bits place done c ∷ []) cs

-- the first variable behind them
abbrev pub class_end : List Bool → ℕ → List Leaf → List ℕ → ℕ
class_end bits place done [] = place
class_end bits place done (c ∷ cs) = class_end bits (next_place bits place done c) (done ++ next_leaf bits place done c ∷ []) cs

-- the ranges of classes, where the first of these registers has number i
abbrev pub class_ranges : List Bool → ℕ → List ℕ → List Range
class_ranges bits i [] = []
class_ranges bits i (c ∷ cs) = if c == i then class_range (flag_at bits c) ∷ class_ranges bits (i + 1) cs else class_ranges bits (i + 1) cs

-- a Both port may be handed Z
abbrev pub port_range : Port → Range
port_range port.Both = OrZ
port_range _ = Bit

-- the directions of the handed ports, in board order
abbrev pub handed_ports : Net → List Port
handed_ports net = map (λ l. l.port) (filter (λ l. is_handed l.port) net.nets)

-- the leaves of the registers of both boards and of the first board's handed ports
pub record IsLeavesOf (ports : List Port) (bits : List Bool) (classes : List ℕ) (leaves : Leaves) : Type 0 where
  pub registers : leaves.registers ≡ class_leaves bits 0 [] classes
  pub ports_are : leaves.ports ≡ leaves_from (class_end bits 0 [] classes) (map port_range ports)
