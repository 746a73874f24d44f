-- Ranks of a board's nodes.
use Rattle.std.specs.Prelude.{ℕ, ◌<◌}
use Rattle.std.specs.List.{AllByRecursion}
use Rattle.mig_base.specs.declared.circuit.Read.{Read}
use Rattle.mig_base.specs.declared.circuit.Circuit.{Circuit}
use Rattle.mig_base.specs.Reads.{node_reads}

-- each node has a greater rank than all that it reads, and a rank below a bound
pub record Ranked (c : Circuit) (rank : Read → ℕ) (top : ℕ) : Type 0 where
  pub falls : (v : Read) → AllByRecursion (λ w. rank w < rank v) (node_reads c v)
  pub below : (v : Read) → rank v < top
