-- The loop that is reported of a board whose nodes have no ranks.
use Rattle.std.specs.Prelude.{ℕ, ◌≡◌, ◌<◌, List, [], ◌∷◌, ◌++◌, length}
use Rattle.mig_base.specs.declared.circuit.Read.{Read}
use Rattle.mig_base.specs.declared.circuit.Circuit.{Circuit}
use Rattle.mig_base.specs.Accepted.{Walk}
use Rattle.mig_base.specs.Among.{Among}
use Rattle.mig_base.specs.Reads.{node_reads}
use Rattle.mig_base.specs.Structure.{all_variables}
use Rattle.ranks.specs.declared.RankError.{RankError}
use Rattle.ranks.specs.declared.RankError.TheVariants.{Loop, Memory}

-- an item of a list that has a property, where none before it has it
pub record IsFirst {T : Type 0} (P : T → Type 0) (items : List T) (item : T) : Type 0 where
  pub before : List T
  pub after : List T
  pub split : items ≡ before ++ item ∷ after
  pub has : P item
  pub none : (other : T) → Among other before → P other → ⊥

-- a node that reads itself over some way
abbrev pub IsOnLoop : Circuit → Read → Type 0
IsOnLoop c v = (n : ℕ) × Walk c n v v

-- a walk of this many steps and one more, and none has fewer
abbrev pub IsShortest : Circuit → ℕ → Read → Read → Type 0
IsShortest c n v w = Walk c n v w × ((m : ℕ) → m < n → Walk c m v w → ⊥)

-- behind a node, each next one is the first in node order, of those that the last one reads, from which the rest is long enough for a walk home; the last reads home
abbrev pub GoesHome : Circuit → Read → Read → List Read → Type 0
GoesHome c home v [] = Among home (node_reads c v)
GoesHome c home v (w ∷ rest) =
    IsFirst (λ u. Among u (node_reads c v) × Walk c (length rest) u home) (all_variables c) w × GoesHome c home w rest

-- the first node in node order that lies on a loop, and a shortest way back to it, each node of it the first in node order that can be next
pub record IsLoopFrom (c : Circuit) (home : Read) (rest : List Read) : Type 0 where
  pub first : IsFirst (IsOnLoop c) (all_variables c) home
  pub shortest : IsShortest c (length rest) home home
  pub way : GoesHome c home home rest

-- these nodes are the reported loop
abbrev pub IsFirstLoop : Circuit → List Read → Type 0
IsFirstLoop c [] = ⊥
IsFirstLoop c (home ∷ rest) = IsLoopFrom c home rest

-- ranks are refused for the reported loop or for want of memory
abbrev pub IsRefusal : Circuit → RankError → Type 0
IsRefusal c (Loop cycle) = IsFirstLoop c cycle
IsRefusal c Memory = Unit {0}
