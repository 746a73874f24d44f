-- The triples of leaves.
use Rattle.std.specs.Prelude.{ℕ, ◌≡◌, List, length, slice_get}
use Rattle.bdd.specs.Tree.{Point}
use Rattle.bdd.specs.Diagram.{Diagram}
use Rattle.mig_base.specs.Levels.{or_x}
use Rattle.leaves.specs.declared.Leaf.{Leaf}
use Rattle.leaves.specs.Leaves.{leaf_level}
use Rattle.reckoning.specs.declared.triples.Three.{Three}
use Rattle.reckoning.specs.Triples.{AreTriples, PlaceSays}

-- at each point the triples say what the leaves read there
pub record AreLeafTriples (d : Diagram) (fs : List Leaf) (ts : List Three) : Type 0 where
  pub triples : AreTriples d ts
  pub count : length ts ≡ length fs
  pub says : (p : Point) (n : ℕ) → PlaceSays d ts n p (or_x (λ f. leaf_level f p) (slice_get fs n))
