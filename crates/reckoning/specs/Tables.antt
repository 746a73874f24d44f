-- The triples of the nodes of a board so far.
use Rattle.std.specs.Prelude.{ℕ, List}
use Rattle.std.specs.List.{AllByRecursion}
use Rattle.bdd.specs.Tree.{Point}
use Rattle.bdd.specs.Diagram.{Diagram}
use Rattle.mig_base.specs.declared.levels.Level.{Level}
use Rattle.mig_base.specs.declared.circuit.Read.{Read}
use Rattle.mig_base.specs.declared.circuit.Read.TheVariants.{OfNet, OfRegister}
use Rattle.mig_base.specs.declared.circuit.Levels.{Levels}
use Rattle.mig_base.specs.Levels.{level_at}
use Rattle.mig_base.specs.Values.{node_level}
use Rattle.reckoning.specs.declared.triples.Three.{Three}
use Rattle.reckoning.specs.declared.triples.Value.{Value}
use Rattle.reckoning.specs.declared.triples.Table.{Table}
use Rattle.mig_base.specs.declared.nets.Pull.{Pull}
use Rattle.settle.specs.Rules.{pulled_from}
use Rattle.reckoning.specs.Triples.{IsTriple, IsValue, Says, Means, Allows, AreTriples, PlaceSays}

pub record IsTable (d : Diagram) (t : Table) : Type 0 where
  pub nets : AreTriples d t.nets
  pub visible : AreTriples d t.visible

-- the triple of a node
abbrev pub triples_of : Table → Read → List Three
triples_of t (OfNet n) = t.nets
triples_of t (OfRegister k) = t.visible

abbrev pub place_in : Read → ℕ
place_in (OfNet n) = n
place_in (OfRegister k) = k

-- at a point the triple of a node says its level among these
abbrev pub NodeSays : Diagram → Table → Point → Levels → Read → Type 0
NodeSays d t p l v = PlaceSays d (triples_of t v) (place_in v) p (node_level l v)

-- the triples of all these nodes do
abbrev pub NodesSay : Diagram → Table → Point → Levels → List Read → Type 0
NodesSay d t p l vs = AllByRecursion (NodeSays d t p l) vs

-- wherever the nodes that it reads say their levels, a value says what a rule makes of them
pub record IsValueOf (old new : Diagram) (t : Table) (reads : List Read) (rule : Levels → Level) (v : Value) : Type 0 where
  pub valid : IsValue new v
  pub means : (p : Point) (l : Levels) → NodesSay old t p l reads → Means new v p (rule l)

pub record IsTripleOf (old new : Diagram) (t : Table) (reads : List Read) (rule : Levels → Level) (r : Three) : Type 0 where
  pub valid : IsTriple new r
  pub says : (p : Point) (l : Levels) → NodesSay old t p l reads → Says new r p (rule l)

-- the triples of handed levels say these inputs
abbrev pub HandedSay : Diagram → List Three → Point → List Level → Type 0
HandedSay d handed p inputs = (j : ℕ) → PlaceSays d handed j p (level_at inputs j)

-- the same of a net, which besides may be handed a level
pub record IsNetOf (old new : Diagram) (t : Table) (handed : List Three) (reads : List Read) (rule : List Level → Levels → Level) (r : Three) : Type 0 where
  pub valid : IsTriple new r
  pub says : (p : Point) (l : Levels) (inputs : List Level) → HandedSay old handed p inputs → NodesSay old t p l reads → Says new r p (rule inputs l)

-- the same of what drivers make of a net on which something stands already
pub record IsWiredOf (old new : Diagram) (t : Table) (start : Three) (reads : List Read) (rule : Levels → Level → Level) (r : Three) : Type 0 where
  pub valid : IsTriple new r
  pub allows : (p : Point) (l : Levels) (x : Level) → Allows old start p x → NodesSay old t p l reads → Allows new r p (rule l x)

-- a net that nothing drives gets what its pull makes of it
pub record IsPulled (old new : Diagram) (pull : Pull) (wired r : Three) : Type 0 where
  pub valid : IsTriple new r
  pub says : (p : Point) (x : Level) → Allows old wired p x → Says new r p (pulled_from pull x)

-- the triple of a net, by that of the level that it is handed
pub record IsSharedOf (old new : Diagram) (t : Table) (handed : Three) (reads : List Read) (rule : Levels → Level → Level) (r : Three) : Type 0 where
  pub valid : IsTriple new r
  pub says : (p : Point) (l : Levels) (x : Level) → Says old handed p x → NodesSay old t p l reads → Says new r p (rule l x)
