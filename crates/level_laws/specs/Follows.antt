-- A board that stands for another: each kept node of the new board has the level of its old node, as far as what it reads has.
use Rattle.std.specs.Prelude.{◌≡◌, List}
use Rattle.std.specs.List.{AllByRecursion}
use Rattle.mig_base.specs.declared.levels.Level.{Level}
use Rattle.mig_base.specs.declared.circuit.Read.{Read}
use Rattle.mig_base.specs.declared.circuit.Circuit.{Circuit}
use Rattle.mig_base.specs.declared.circuit.Levels.{Levels}
use Rattle.mig_base.specs.Values.{node_level}
use Rattle.level_laws.specs.Settled.{IsSettled}
use Rattle.mig_base.specs.Reads.{node_reads}
use Rattle.level_laws.specs.Runs.{shown_levels, next_stored, power_up}
use Rattle.level_laws.specs.SameBehaviour.{IsLawful}

-- the levels l of the old board and m of the new one agree at a node of the new one
abbrev pub SameAt : (Read → Read) → Levels → Levels → Read → Type 0
SameAt old l m v = node_level l (old v) ≡ node_level m v

-- a: the old board, b: the new one; old: the old node of a new one; Kept: the nodes that count; Stored: which stored levels belong together
pub record Follows (a b : Circuit) (old : Read → Read) (Kept : Read → Type 0) (Stored : List Level → List Level → Type 0) : Type 0 where
  pub closed : (v : Read) → Kept v → AllByRecursion Kept (node_reads b v)
  pub local : (sa sb inputs : List Level) (l m : Levels) → Stored sa sb → IsLawful a inputs → IsSettled a sa inputs l → IsSettled b sb inputs m →
      (v : Read) → Kept v → AllByRecursion (SameAt old l m) (node_reads b v) → SameAt old l m v
  pub ports : (l m : Levels) → ((v : Read) → Kept v → SameAt old l m v) → shown_levels a l ≡ shown_levels b m
  pub step : (sa sb last inputs : List Level) (l m : Levels) → Stored sa sb → IsLawful a last → IsLawful a inputs → IsSettled a sa last l → IsSettled b sb last m →
      ((v : Read) → Kept v → SameAt old l m v) →
      Stored (next_stored a l last inputs a.registers l.visible) (next_stored b m last inputs b.registers m.visible)
  pub start : Stored (power_up a) (power_up b)
