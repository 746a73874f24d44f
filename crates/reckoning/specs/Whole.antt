-- All triples of a board at once.
use Rattle.std.specs.Prelude.{ℕ, ◌≡◌, List, length, slice_get}
use Rattle.bdd.specs.Tree.{Point}
use Rattle.bdd.specs.Diagram.{Diagram}
use Rattle.mig_base.specs.declared.circuit.Circuit.{Circuit}
use Rattle.mig_base.specs.declared.circuit.Levels.{Levels}
use Rattle.mig_base.specs.Levels.{level_at, or_x}
use Rattle.level_laws.specs.Runs.{taken}
use Rattle.reckoning.specs.declared.triples.Three.{Three}
use Rattle.reckoning.specs.declared.triples.Triples.{Triples}
use Rattle.reckoning.specs.Triples.{AreTriples, NeverFloat, PlaceSays}
use Rattle.reckoning.specs.Reached.{IsGiven}

-- a triple for each net, each drive and, twice, each register; those of registers are never Z
pub record HasTriples (d : Diagram) (c : Circuit) (r : Triples) : Type 0 where
  pub nets : AreTriples d r.nets
  pub drives : AreTriples d r.drives
  pub visible : AreTriples d r.visible
  pub next : AreTriples d r.next
  pub visible_known : NeverFloat d r.visible
  pub next_known : NeverFloat d r.next
  pub net_count : length r.nets ≡ length c.nets
  pub drive_count : length r.drives ≡ length c.units
  pub visible_count : length r.visible ≡ length c.registers
  pub next_count : length r.next ≡ length c.registers

-- at a point the triples say these levels, and what each register takes among them where its clock rises
pub record SayAll (d : Diagram) (c : Circuit) (r : Triples) (p : Point) (l : Levels) : Type 0 where
  pub nets : (n : ℕ) → PlaceSays d r.nets n p (level_at l.nets n)
  pub drives : (u : ℕ) → PlaceSays d r.drives u p (level_at l.drives u)
  pub visible : (k : ℕ) → PlaceSays d r.visible k p (level_at l.visible k)
  pub next : (k : ℕ) → PlaceSays d r.next k p (or_x (taken l) (slice_get c.registers k))

-- at each point where the given triples say stored and handed levels, the triples say the levels settled under these
pub record AreSettled (first now : Diagram) (c : Circuit) (stored handed : List Three) (r : Triples) : Type 0 where
  pub triples : HasTriples now c r
  pub says : (p : Point) (l : Levels) → IsGiven first c stored handed p l → SayAll now c r p l
