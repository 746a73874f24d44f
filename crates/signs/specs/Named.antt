-- Triples of handed levels, by the names of their ports.
use Rattle.std.specs.Prelude.{ℕ, ◌≡◌, List, length, slice_get}
use Rattle.bdd.specs.Tree.{Point}
use Rattle.bdd.specs.Diagram.{Diagram}
use Rattle.mig_base.specs.Levels.{or_x}
use Rattle.level_laws.specs.SameBehaviour.{Handing}
use Rattle.reckoning.specs.declared.triples.Three.{Three}
use Rattle.reckoning.specs.Triples.{AreTriples, PlaceSays}

-- at a point the triples say what the ports of these names are handed
abbrev pub NamedSay : Diagram → List Three → List (List ℕ) → Point → Handing → Type 0
NamedSay d ts names p h = (n : ℕ) → PlaceSays d ts n p (or_x h (slice_get names n))

-- wherever the triples of some ports say what these are handed, those of the others do so too
pub record AreNamedFrom (d : Diagram) (names : List (List ℕ)) (ports : List Three) (others : List (List ℕ)) (made : List Three) : Type 0 where
  pub triples : AreTriples d made
  pub count : length made ≡ length others
  pub says : (p : Point) (h : Handing) → NamedSay d ports names p h → NamedSay d made others p h
