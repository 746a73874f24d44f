-- Steps that make only what changes anew.
use Rattle.std.specs.Prelude.{ℕ, ◌≡◌, ◌⊎◌, ◌<◌, true, false, List, length, slice_get, slice_set}
use Rattle.mig_base.specs.declared.levels.Level.{Level}
use Rattle.mig_base.specs.declared.levels.Level.TheVariants.{X}
use Rattle.mig_base.specs.declared.circuit.Read.{Read}
use Rattle.mig_base.specs.declared.circuit.NetKind.{NetKind}
use Rattle.mig_base.specs.declared.circuit.NetKind.TheVariants.{Ground, Power, Handed, Shared, Inner}
use Rattle.mig_base.specs.declared.circuit.Driver.{Driver}
use Rattle.mig_base.specs.declared.circuit.Circuit.{Circuit}
use Rattle.mig_base.specs.declared.circuit.Levels.{Levels}
use Rattle.mig_base.specs.Among.{Among}
use Rattle.mig_base.specs.Levels.{level_at, or_x}
use Rattle.mig_base.specs.Reads.{IsNode}
use Rattle.mig_base.specs.Values.{node_level}
use Rattle.level_laws.specs.Settled.{drive_level}
use Rattle.reader_lists.specs.declared.lists.Reader.{Reader}
use Rattle.reader_lists.specs.declared.lists.Reader.TheVariants.{ByUnit}
use Rattle.reader_lists.specs.declared.marks.Marks.{Marks}
use Rattle.reader_lists.specs.declared.readers.Readers.{Readers}
use Rattle.reader_lists.specs.Lists.{reader_of, readers_at}
use Rattle.reader_lists.specs.Marked.{marked_in}
use Rattle.settle.specs.Rules.{drive_of, new_level, placed, with_drives}

-- the level that a net is handed, and X where it is handed none
abbrev pub given_by : List Level → NetKind → Level
given_by inputs (Handed j) = level_at inputs j
given_by inputs (Shared j) = level_at inputs j
given_by inputs Ground = X
given_by inputs Power = X
given_by inputs Inner = X

abbrev pub given_at : Circuit → List Level → ℕ → Level
given_at c inputs n = or_x (λ w. given_by inputs w.kind) (slice_get c.nets n)

-- a node is marked, or what the others make of it
abbrev pub Fits : Circuit → List Level → List Level → Marks → Levels → Read → Type 0
Fits c stored inputs marks l v = (node_level l v ≡ new_level c stored inputs l v) ⊎ (marked_in marks (reader_of v) ≡ true)

-- a unit is marked, or its drive what the nodes make of it
abbrev pub DriveFits : Circuit → Marks → Levels → ℕ → Type 0
DriveFits c marks l u = (level_at l.drives u ≡ drive_of c l u) ⊎ (marked_in marks (ByUnit u) ≡ true)

-- all that doesn't fit is marked
pub record AreMarked (c : Circuit) (stored inputs : List Level) (marks : Marks) (l : Levels) : Type 0 where
  pub nodes : (v : Read) → IsNode c v → Fits c stored inputs marks l v
  pub units : (u : ℕ) → u < length c.units → DriveFits c marks l u

-- a marked node was made anew, and what reads it was marked where its level changed
pub record Visited (c : Circuit) (readers : Readers) (stored inputs : List Level) (v : Read) (marks : Marks) (l : Levels) (after : Marks) (m : Levels) : Type 0 where
  pub levels : ((marked_in marks (reader_of v) ≡ false) × (m ≡ l)) ⊎ (m ≡ placed l v (new_level c stored inputs l v))
  pub keeps : (r : Reader) → (r ≡ reader_of v → ⊥) → marked_in marks r ≡ true → marked_in after r ≡ true
  pub marked : (r : Reader) → Among r (readers_at readers v) → (node_level l v ≡ node_level m v) ⊎ (marked_in after r ≡ true)

-- a marked drive was made anew
pub record Renewed (u : ℕ) (d : Driver) (marks : Marks) (l : Levels) (after : Marks) (m : Levels) : Type 0 where
  pub levels : ((marked_in marks (ByUnit u) ≡ false) × (m ≡ l)) ⊎ (m ≡ with_drives l (slice_set l.drives u (drive_level l d)))
  pub keeps : (r : Reader) → (r ≡ ByUnit u → ⊥) → marked_in marks r ≡ true → marked_in after r ≡ true
