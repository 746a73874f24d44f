-- For each node of a board what reads it.
use Rattle.std.specs.Prelude.{ℕ, ◌≡◌, ◌<◌, List, [], length, replicate, slice_index_or}
use Rattle.mig_base.specs.declared.circuit.Read.{Read}
use Rattle.mig_base.specs.declared.circuit.Read.TheVariants.{OfNet, OfRegister}
use Rattle.mig_base.specs.declared.circuit.Circuit.{Circuit}
use Rattle.mig_base.specs.Among.{Among}
use Rattle.reader_lists.specs.declared.lists.Reader.{Reader}
use Rattle.reader_lists.specs.declared.lists.Reader.TheVariants.{ByNet, ByRegister}
use Rattle.reader_lists.specs.declared.readers.Readers.{Readers}

-- the reader was put into the list of this number, where there is one, and none was taken out of any
pub record IsPut (old : List (List Reader)) (place : ℕ) (reader : Reader) (new : List (List Reader)) : Type 0 where
  pub long : length new ≡ length old
  pub keeps : (i : ℕ) (r : Reader) → Among r (slice_index_or old i []) → Among r (slice_index_or new i [])
  pub put : place < length old → Among reader (slice_index_or new place [])

-- a node as a reader
abbrev pub reader_of : Read → Reader
reader_of (OfNet n) = ByNet n
reader_of (OfRegister k) = ByRegister k

-- what reads a node, and nothing of what is not on the board
abbrev pub readers_at : Readers → Read → List Reader
readers_at t (OfNet n) = slice_index_or t.nets n []
readers_at t (OfRegister k) = slice_index_or t.registers k []

-- a node that has a list
abbrev pub IsListed : Readers → Read → Type 0
IsListed t (OfNet n) = n < length t.nets
IsListed t (OfRegister k) = k < length t.registers

-- an empty list for each node
abbrev pub no_readers : Circuit → Readers
no_readers c = record { nets = replicate (length c.nets) []; registers = replicate (length c.registers) [] }

-- no reader was taken out of any list
pub record Keeps (old new : Readers) : Type 0 where
  pub nets : length new.nets ≡ length old.nets
  pub registers : length new.registers ≡ length old.registers
  pub all : (v : Read) (r : Reader) → Among r (readers_at old v) → Among r (readers_at new v)

-- the reader was put into the lists of these nodes, where they have one
pub record Adds (old : Readers) (reader : Reader) (reads : List Read) (new : Readers) : Type 0 where
  pub keeps : Keeps old new
  pub put : (v : Read) → IsListed old v → Among v reads → Among reader (readers_at new v)
