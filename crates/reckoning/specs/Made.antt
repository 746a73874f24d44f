-- The triples of lists: of the drives of all units, and of what all registers take.
use Rattle.std.specs.Prelude.{ℕ, ◌≡◌, List, length, slice_get}
use Rattle.bdd.specs.Tree.{Point}
use Rattle.bdd.specs.Diagram.{Diagram}
use Rattle.mig_base.specs.declared.levels.Level.{Level}
use Rattle.mig_base.specs.declared.circuit.Read.{Read}
use Rattle.mig_base.specs.declared.circuit.Circuit.{Circuit}
use Rattle.mig_base.specs.declared.circuit.Levels.{Levels}
use Rattle.mig_base.specs.Levels.{or_x}
use Rattle.level_laws.specs.Settled.{drive_level}
use Rattle.level_laws.specs.Runs.{taken}
use Rattle.reckoning.specs.declared.triples.Three.{Three}
use Rattle.reckoning.specs.declared.triples.Table.{Table}
use Rattle.reckoning.specs.Triples.{AreTriples, PlaceSays}
use Rattle.reckoning.specs.Tables.{NodeSays}

-- at a point the triple of each node says its level among these, and what the table does not have is X
abbrev pub AllSay : Diagram → Table → Point → Levels → Type 0
AllSay d t p l = (v : Read) → NodeSays d t p l v

-- a triple for each item: wherever all nodes say their levels, it says what a rule makes of the item
pub record AreOf {T : Type 0} (old new : Diagram) (t : Table) (rule : Levels → T → Level) (items : List T) (made : List Three) : Type 0 where
  pub triples : AreTriples new made
  pub count : length made ≡ length items
  pub says : (p : Point) (l : Levels) → AllSay old t p l → (n : ℕ) → PlaceSays new made n p (or_x (rule l) (slice_get items n))

-- the drives of all units
abbrev pub AreDrives : Diagram → Diagram → Circuit → Table → List Three → Type 0
AreDrives old new c t made = AreOf old new t drive_level c.units made

-- what all registers take where their clocks rise
abbrev pub AreTaken : Diagram → Diagram → Circuit → Table → List Three → Type 0
AreTaken old new c t made = AreOf old new t taken c.registers made
