-- The settled levels of two boards over the leaves of a matching.
use Rattle.std.specs.Prelude.{ℕ, ◌≡◌, List, length}
use Rattle.bdd.specs.Tree.{Point}
use Rattle.bdd.specs.Diagram.{Diagram}
use Rattle.mig_base.specs.declared.levels.Level.{Level}
use Rattle.mig_base.specs.declared.circuit.Levels.{Levels}
use Rattle.level_laws.specs.Settled.{IsSettled}
use Rattle.level_laws.specs.SameBehaviour.{Handing}
use Rattle.board.specs.Joined.{Joined, equations_of}
use Rattle.matchings.specs.Pairs.{handed, registers_of_both}
use Rattle.matchings.specs.ByPort.{handed_names}
use Rattle.reckoning.specs.Whole.{HasTriples, SayAll}
use Rattle.reckoning.specs.Triples.{AreTriples}
use Rattle.class_leaves.specs.LeafTriples.{AreLeafTriples}
use Rattle.class_leaves.specs.PairsAt.{AreWithin, IsPairAt}
use Rattle.class_leaves.specs.declared.Leaves.{Leaves}
use Rattle.signs.specs.Named.{AreNamedFrom, NamedSay}
use Rattle.signs.specs.declared.both.BothTriples.{BothTriples}
use Rattle.signs.specs.declared.both.GivenTriples.{GivenTriples}

-- a leaf for each register of both boards and for each handed port of the first one, with variables among the first n
pub record IsRoomy (a b : Joined) (n : ℕ) (leaves : Leaves) : Type 0 where
  pub registers : AreWithin n leaves.registers
  pub ports : AreWithin n leaves.ports
  pub register_count : length leaves.registers ≡ registers_of_both a b
  pub port_count : length leaves.ports ≡ length (handed_names a.net)

-- the triples of the leaves, and those of what the second board is handed
pub record AreGivenTriples (a b : Joined) (leaves : Leaves) (d : Diagram) (t : GivenTriples) : Type 0 where
  pub stored : AreLeafTriples d leaves.registers t.stored
  pub ports : AreLeafTriples d leaves.ports t.ports
  pub others : AreNamedFrom d (handed_names a.net) t.ports (handed_names b.net) t.others

-- at a point the triples say these levels of both boards, and these inputs
pub record BothSay (a b : Joined) (d : Diagram) (t : BothTriples) (p : Point) (h : Handing) (l m : Levels) : Type 0 where
  pub ports : NamedSay d t.ports (handed_names a.net) p h
  pub left : SayAll d (equations_of a) t.left p l
  pub right : SayAll d (equations_of b) t.right p m

-- levels that two states settle at under the same inputs
pub record BothSettle (a b : Joined) (left right : List Level) (h : Handing) (l m : Levels) : Type 0 where
  pub left_settled : IsSettled (equations_of a) left (handed a h) l
  pub right_settled : IsSettled (equations_of b) right (handed b h) m

-- at the point of each pair the triples say the levels that it settles at
pub record AreBothTriples (a b : Joined) (leaves : Leaves) (d : Diagram) (t : BothTriples) : Type 0 where
  pub ports : AreTriples d t.ports
  pub count : length t.ports ≡ length (handed_names a.net)
  pub left : HasTriples d (equations_of a) t.left
  pub right : HasTriples d (equations_of b) t.right
  pub says : (p : Point) (left right : List Level) (h : Handing) (l m : Levels) → IsPairAt a b leaves p left right h → BothSettle a b left right h l m → BothSay a b d t p h l m
