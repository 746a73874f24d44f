-- Lists of nodes, one for each node.
use Rattle.std.specs.Prelude.{ℕ, ◌≡◌, ◌⊎◌, ◌<◌, List, [], length, slice_index_or}
use Rattle.mig_base.specs.declared.circuit.Read.{Read}
use Rattle.mig_base.specs.declared.circuit.Read.TheVariants.{OfNet, OfRegister}
use Rattle.mig_base.specs.Among.{Among}
use Rattle.ranks.specs.declared.neighbours.Neighbours.{Neighbours}

-- the node was put into the list of this number, where there is one, and nothing else changed
pub record IsPut (old : List (List Read)) (place : ℕ) (node : Read) (new : List (List Read)) : Type 0 where
  pub long : length new ≡ length old
  pub keeps : (i : ℕ) (v : Read) → Among v (slice_index_or old i []) → Among v (slice_index_or new i [])
  pub sound : (i : ℕ) (v : Read) → Among v (slice_index_or new i []) → Among v (slice_index_or old i []) ⊎ ((i ≡ place) × (v ≡ node))
  pub put : place < length old → Among node (slice_index_or new place [])

-- the list of a node, and an empty one of what is not on the board
abbrev pub neighbours_at : Neighbours → Read → List Read
neighbours_at ns (OfNet n) = slice_index_or ns.nets n []
neighbours_at ns (OfRegister k) = slice_index_or ns.registers k []

-- a node that has a list
abbrev pub IsListed : Neighbours → Read → Type 0
IsListed ns (OfNet n) = n < length ns.nets
IsListed ns (OfRegister k) = k < length ns.registers

-- the node was put into the list of this other one, where it has one, and nothing else changed
pub record IsAdded (old : Neighbours) (to node : Read) (new : Neighbours) : Type 0 where
  pub nets : length new.nets ≡ length old.nets
  pub registers : length new.registers ≡ length old.registers
  pub keeps : (w v : Read) → Among v (neighbours_at old w) → Among v (neighbours_at new w)
  pub sound : (w v : Read) → Among v (neighbours_at new w) → Among v (neighbours_at old w) ⊎ ((w ≡ to) × (v ≡ node))
  pub put : IsListed old to → Among node (neighbours_at new to)
