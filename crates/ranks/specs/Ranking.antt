-- Ranks of some nodes so far.
use Rattle.std.specs.Prelude.{ℕ, ◌≡◌, ◌≤◌, ◌+◌, ◌==◌, Bool, false, List, length, Option, Some, None, slice_get}
use Rattle.std.specs.List.{AllByRecursion}
use Rattle.mig_base.specs.Structure.{has_no_driver}
use Rattle.mig_base.specs.declared.circuit.Read.{Read}
use Rattle.mig_base.specs.declared.circuit.Read.TheVariants.{OfNet, OfRegister}
use Rattle.mig_base.specs.declared.circuit.Wire.{Wire}
use Rattle.mig_base.specs.declared.circuit.Circuit.{Circuit}
use Rattle.mig_base.specs.Among.{Among}
use Rattle.mig_base.specs.Reads.{node_reads}
use Rattle.ranks.specs.declared.marks.Marks.{Marks}
use Rattle.ranks.specs.Marked.{mark_in, number_in, IsWaiting, waiting}
use Rattle.ranks.specs.RankEquations.{rank_rule}

-- a net without driver
abbrev pub undriven : Circuit → Read → Bool
undriven c (OfNet n) = has_no_driver (slice_get c.nets n)
undriven c (OfRegister k) = false

-- none of these nodes waits for a rank
abbrev pub AreReady : Marks → List Read → Type 0
AreReady m reads = AllByRecursion (λ w. IsWaiting m w → ⊥) reads

-- one of these nodes waits for a rank
abbrev pub IsBlocked : Marks → List Read → Type 0
IsBlocked m reads = (w : Read) × Among w reads × IsWaiting m w

-- all that a node reads has a rank, and its own follows from these
pub record IsRankOf (c : Circuit) (m : Marks) (v : Read) (rank : ℕ) : Type 0 where
  pub ready : AreReady m (node_reads c v)
  pub rule : rank ≡ rank_rule c (number_in m) v

-- all ranks so far are right, and no rank is greater than the number of nodes that have one
pub record IsRanking (c : Circuit) (m : Marks) : Type 0 where
  pub nets : length m.nets ≡ length c.nets
  pub registers : length m.registers ≡ length c.registers
  pub right : (v : Read) (rank : ℕ) → mark_in m v ≡ Some (Some rank) → IsRankOf c m v rank
  pub room : (v : Read) → number_in m v + waiting m ≤ length c.nets + length c.registers

-- a node does not wait for a rank, or reads one that does
abbrev pub IsPassed : Circuit → Marks → Read → Type 0
IsPassed c m v = IsWaiting m v → IsBlocked m (node_reads c v)

-- each node that waits for a rank reads one that does
abbrev pub IsStuck : Circuit → Marks → Type 0
IsStuck c m = (v : Read) → IsPassed c m v

-- all ranks are right, and each node without rank reads one without rank
pub record IsRanked (c : Circuit) (m : Marks) : Type 0 where
  pub ranking : IsRanking c m
  pub stuck : IsStuck c m
