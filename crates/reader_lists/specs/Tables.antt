-- All that reads a node of a board.
use Rattle.std.specs.Prelude.{ℕ, ◌<◌, List, slice_get}
use Rattle.mig_base.specs.declared.circuit.Read.{Read}
use Rattle.mig_base.specs.declared.circuit.Circuit.{Circuit}
use Rattle.mig_base.specs.Among.{Among}
use Rattle.mig_base.specs.Reads.{IsNode, driver_reads, node_reads}
use Rattle.reader_lists.specs.declared.lists.Reader.TheVariants.{ByUnit}
use Rattle.reader_lists.specs.declared.readers.Readers.{Readers}
use Rattle.reader_lists.specs.Lists.{reader_of, readers_at, Adds, IsListed, Keeps}

-- a node was put into the lists of all that it reads
abbrev pub AddsNode : Circuit → Readers → Read → Readers → Type 0
AddsNode c old node new = Adds old (reader_of node) (node_reads c node) new

-- these nodes were
pub record AddsNodes (c : Circuit) (old : Readers) (nodes : List Read) (new : Readers) : Type 0 where
  pub keeps : Keeps old new
  pub put : (w v : Read) → Among w nodes → IsListed old v → Among v (node_reads c w) → Among (reader_of w) (readers_at new v)

-- so many units were
pub record AddsUnits (c : Circuit) (old : Readers) (n : ℕ) (new : Readers) : Type 0 where
  pub keeps : Keeps old new
  pub put : (u : ℕ) (v : Read) → u < n → IsListed old v → Among v (driver_reads (slice_get c.units u)) → Among (ByUnit u) (readers_at new v)

-- each node and each unit stands among the readers of each node that it reads
pub record AreReaders (c : Circuit) (t : Readers) : Type 0 where
  pub nodes : (w v : Read) → IsNode c w → IsNode c v → Among v (node_reads c w) → Among (reader_of w) (readers_at t v)
  pub units : (u : ℕ) (v : Read) → IsNode c v → Among v (driver_reads (slice_get c.units u)) → Among (ByUnit u) (readers_at t v)
