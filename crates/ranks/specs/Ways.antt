-- Shortest walks to one node.
use Rattle.std.specs.Prelude.{ℕ, zero, suc, ◌≡◌, ◌⊎◌, ◌<◌, ◌+◌, List, ◌∷◌, length, Some}
use Rattle.mig_base.specs.declared.circuit.Read.{Read}
use Rattle.mig_base.specs.declared.circuit.Circuit.{Circuit}
use Rattle.mig_base.specs.Accepted.{Walk}
use Rattle.mig_base.specs.Among.{Among}
use Rattle.ranks.specs.declared.marks.Marks.{Marks}
use Rattle.ranks.specs.FirstLoop.{IsShortest, GoesHome}
use Rattle.ranks.specs.Marked.{mark_in, IsWaiting, waiting}

-- these nodes were tried: each one that waited has this number now and is among the next ones, and nothing else changed
pub record IsReached (tried : List Read) (steps : ℕ) (old : Marks) (before : List Read) (new : Marks) (next : List Read) : Type 0 where
  pub nets : length new.nets ≡ length old.nets
  pub registers : length new.registers ≡ length old.registers
  pub kept : (v : Read) (n : ℕ) → mark_in old v ≡ Some (Some n) → mark_in new v ≡ Some (Some n)
  pub found : (v : Read) (n : ℕ) → mark_in new v ≡ Some (Some n) →
      (mark_in old v ≡ Some (Some n)) ⊎ ((n ≡ steps) × Among v tried × IsWaiting old v × Among v next)
  pub waited : (v : Read) → IsWaiting new v → IsWaiting old v
  pub grows : (v : Read) → Among v before → Among v next
  pub joined : (v : Read) → Among v next → Among v before ⊎ Among v tried
  pub all : (v : Read) → Among v tried → IsWaiting new v → ⊥
  pub fewer : waiting new + length next ≡ waiting old + length before

-- a walk of this many steps
abbrev pub Path : Circuit → ℕ → Read → Read → Type 0
Path c zero v w = v ≡ w
Path c (suc n) v w = Walk c n v w

-- the numbers are those of all shortest walks home of up to so many steps, each less one
pub record IsWays (c : Circuit) (home : Read) (steps : ℕ) (ways : Marks) : Type 0 where
  pub nets : length ways.nets ≡ length c.nets
  pub registers : length ways.registers ≡ length c.registers
  pub sound : (v : Read) (n : ℕ) → mark_in ways v ≡ Some (Some n) → IsShortest c n v home × (n < steps)
  pub every : (v : Read) (n : ℕ) → n < steps → Walk c n v home → IsWaiting ways v → ⊥

-- a node whose shortest walk home has this many steps
abbrev pub IsAt : Marks → Read → ℕ → Read → Type 0
IsAt ways home zero v = v ≡ home
IsAt ways home (suc n) v = mark_in ways v ≡ Some (Some n)

-- these are the nodes with shortest walks home of this many steps
pub record IsFrontier (c : Circuit) (home : Read) (steps : ℕ) (ways : Marks) (nodes : List Read) : Type 0 where
  pub sound : (v : Read) → Among v nodes → Path c steps v home
  pub every : (v : Read) → IsAt ways home steps v → Among v nodes

-- the numbers are those of all shortest walks home, each less one
pub record IsWayHome (c : Circuit) (home : Read) (ways : Marks) : Type 0 where
  pub nets : length ways.nets ≡ length c.nets
  pub registers : length ways.registers ≡ length c.registers
  pub sound : (v : Read) (n : ℕ) → mark_in ways v ≡ Some (Some n) → IsShortest c n v home
  pub every : (v : Read) (n : ℕ) → Walk c n v home → IsWaiting ways v → ⊥

-- a node that is read and has this number
abbrev pub IsStep : List Read → Marks → ℕ → Read → Type 0
IsStep reads ways steps v = Among v reads × (mark_in ways v ≡ Some (Some steps))

-- a node and a shortest way from it back to it, each node the first that can be next
pub record IsLoopBack (c : Circuit) (home : Read) (cycle : List Read) : Type 0 where
  pub rest : List Read
  pub whole : cycle ≡ home ∷ rest
  pub shortest : IsShortest c (length rest) home home
  pub way : GoesHome c home home rest
