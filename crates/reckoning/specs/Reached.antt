-- How far an order of evaluation was followed.
use Rattle.std.specs.Prelude.{ℕ, ◌≡◌, ◌⊎◌, List, length, slice_set}
use Rattle.std.specs.List.{AllByRecursion}
use Rattle.bdd.specs.Tree.{Point}
use Rattle.bdd.specs.Diagram.{Diagram}
use Rattle.mig_base.specs.declared.levels.Level.{Level}
use Rattle.mig_base.specs.declared.circuit.Read.{Read}
use Rattle.mig_base.specs.declared.circuit.Read.TheVariants.{OfNet, OfRegister}
use Rattle.mig_base.specs.declared.circuit.Register.{Register}
use Rattle.mig_base.specs.declared.circuit.Circuit.{Circuit}
use Rattle.mig_base.specs.declared.circuit.Levels.{Levels}
use Rattle.mig_base.specs.Among.{Among}
use Rattle.mig_base.specs.Levels.{level_at}
use Rattle.mig_base.specs.Reads.{node_reads}
use Rattle.mig_base.specs.Values.{node_level, row_reads}
use Rattle.level_laws.specs.Settled.{IsSettled, visible_level}
use Rattle.ranks.specs.Order.{GoesOn}
use Rattle.mig_base.specs.Reads.{IsNode}
use Rattle.reckoning.specs.declared.triples.Three.{Three}
use Rattle.reckoning.specs.declared.triples.Table.{Table}
use Rattle.reckoning.specs.Triples.{IsTriple, Says, PlaceSays}
use Rattle.reckoning.specs.Tables.{IsTable, NodeSays, NodesSay, HandedSay}

-- at a point the triples of stored levels say these
abbrev pub StoredSay : Diagram → List Three → Point → List Level → Type 0
StoredSay d stored p levels = (k : ℕ) → PlaceSays d stored k p (level_at levels k)

-- at a point the triples of stored and handed levels say what these levels settle under
pub record IsGiven (d : Diagram) (c : Circuit) (stored handed : List Three) (p : Point) (l : Levels) : Type 0 where
  pub levels : List Level
  pub inputs : List Level
  pub count : length levels ≡ length c.registers
  pub stored_say : StoredSay d stored p levels
  pub handed_say : HandedSay d handed p inputs
  pub settled : IsSettled c levels inputs l

-- the triple of a visible Q, by that of its stored level
pub record IsVisibleOf (old new : Diagram) (t : Table) (x : Register) (stored : Three) (r : Three) : Type 0 where
  pub valid : IsTriple new r
  pub says : (p : Point) (l : Levels) (s : Level) → Says old stored p s → NodesSay old t p l (row_reads x.reset) → Says new r p (visible_level l x s)

-- the table with another triple at a node
abbrev pub put : Table → Read → Three → Table
put t (OfNet n) x = record { nets = slice_set t.nets n x; visible = t.visible }
put t (OfRegister k) x = record { nets = t.nets; visible = slice_set t.visible k x }

-- a node was made anew: wherever what it reads says its levels, it says its own
pub record IsRenewed (old new : Diagram) (c : Circuit) (stored handed : List Three) (v : Read) (t after : Table) : Type 0 where
  pub three : Three
  pub valid : IsTriple new three
  pub placed : after ≡ put t v three
  pub says : (p : Point) (l : Levels) → IsGiven old c stored handed p l → NodesSay old t p l (node_reads c v) → Says new three p (node_level l v)

pub record HasPlaces (c : Circuit) (t : Table) : Type 0 where
  pub nets : length t.nets ≡ length c.nets
  pub visible : length t.visible ≡ length c.registers

-- the nodes that are done say their levels, and the rest is an order of evaluation behind them
pub record Reached (first now : Diagram) (c : Circuit) (stored handed : List Three) (rest : List Read) (t : Table) : Type 0 where
  pub done : List Read
  pub says : (p : Point) (l : Levels) → IsGiven first c stored handed p l → (v : Read) → Among v done → NodeSays now t p l v
  pub behind : GoesOn c done rest
  pub all : (v : Read) → IsNode c v → Among v done ⊎ Among v rest
  pub nodes : AllByRecursion (IsNode c) rest
  pub table : IsTable now t
  pub places : HasPlaces c t

-- every node says its level
pub record IsReckoned (first now : Diagram) (c : Circuit) (stored handed : List Three) (t : Table) : Type 0 where
  pub table : IsTable now t
  pub places : HasPlaces c t
  pub says : (p : Point) (l : Levels) → IsGiven first c stored handed p l → (v : Read) → IsNode c v → NodeSays now t p l v
