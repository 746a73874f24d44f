-- The nodes of a board, what they read and by which they are read.
use Rattle.std.specs.Prelude.{◌≡◌, ◌⊎◌, ◌<◌, ◌+◌, ◌^◌, List, length}
use Rattle.mig_base.specs.declared.circuit.Read.{Read}
use Rattle.mig_base.specs.declared.circuit.Circuit.{Circuit}
use Rattle.mig_base.specs.Among.{Among}
use Rattle.mig_base.specs.Reads.{node_reads}
use Rattle.mig_base.specs.Structure.{all_variables}
use Rattle.ranks.specs.declared.neighbours.Neighbours.{Neighbours}
use Rattle.ranks.specs.declared.graph.Graph.{Graph}
use Rattle.ranks.specs.Neighbours.{neighbours_at, IsListed}
use Rattle.mig_base.specs.Reads.{IsNode}

-- what each node reads
pub record AllRead (c : Circuit) (reads : Neighbours) : Type 0 where
  pub is : (v : Read) → neighbours_at reads v ≡ node_reads c v

-- by which of these nodes each node is read
pub record ReadBy (c : Circuit) (nodes : List Read) (readers : Neighbours) : Type 0 where
  pub nets : length readers.nets ≡ length c.nets
  pub registers : length readers.registers ≡ length c.registers
  pub sound : (w v : Read) → Among v (neighbours_at readers w) → Among w (node_reads c v)
  pub every : (w v : Read) → IsNode c w → Among v nodes → Among w (node_reads c v) → Among v (neighbours_at readers w)

-- the node was put into the lists of these nodes, where they have one, and nothing else changed
pub record AddsReader (old : Neighbours) (node : Read) (reads : List Read) (new : Neighbours) : Type 0 where
  pub nets : length new.nets ≡ length old.nets
  pub registers : length new.registers ≡ length old.registers
  pub keeps : (w v : Read) → Among v (neighbours_at old w) → Among v (neighbours_at new w)
  pub sound : (w v : Read) → Among v (neighbours_at new w) → Among v (neighbours_at old w) ⊎ ((v ≡ node) × Among w reads)
  pub put : (w : Read) → IsListed old w → Among w reads → Among node (neighbours_at new w)

-- the nodes of a board, what they read and by which they are read
pub record IsGraph (c : Circuit) (g : Graph) : Type 0 where
  pub nodes : g.nodes ≡ all_variables c
  pub reads : AllRead c g.reads
  pub readers : ReadBy c (all_variables c) g.readers
  pub few : length c.nets + length c.registers + 1 < 2 ^ 32
