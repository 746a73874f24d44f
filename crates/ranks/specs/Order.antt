-- An order of evaluation: every node once, behind all nodes that it reads.
use Rattle.std.specs.Prelude.{List, [], ◌∷◌}
use Rattle.std.specs.List.{AllByRecursion}
use Rattle.mig_base.specs.declared.circuit.Read.{Read}
use Rattle.mig_base.specs.declared.circuit.Circuit.{Circuit}
use Rattle.mig_base.specs.Among.{Among}
use Rattle.mig_base.specs.Reads.{node_reads}
use Rattle.mig_base.specs.Reads.{IsNode}

-- behind those before, each is new and reads only such nodes of the board as stand before it
abbrev pub GoesOn : Circuit → List Read → List Read → Type 0
GoesOn c before [] = Unit {0}
GoesOn c before (v ∷ vs) =
    (Among v before → ⊥) × AllByRecursion (λ w. IsNode c w → Among w before) (node_reads c v) × GoesOn c (v ∷ before) vs

-- every node once, each behind all nodes that it reads
pub record IsOrder (c : Circuit) (order : List Read) : Type 0 where
  pub nodes : AllByRecursion (IsNode c) order
  pub every : (v : Read) → IsNode c v → Among v order
  pub behind : GoesOn c [] order
