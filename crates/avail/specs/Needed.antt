-- The variables that the rows of a new chip read.
use Rattle.std.specs.Prelude.{◌≡◌, Bool, true, false, ◌||◌, List, [], ◌∷◌, if◌then◌else◌}
use Rattle.std.specs.List.{list_any}
use Rattle.mig_base.specs.declared.circuit.Read.{Read}
use Rattle.mig_base.specs.declared.circuit.Literal.{Literal}
use Rattle.mig_base.specs.Structure.{same_read}

-- whether one of these is the variable
abbrev pub are_read : List Read → Read → Bool
are_read [] v = false
are_read (r ∷ rs) v = if same_read r v then true else are_read rs v

-- whether a product reads a variable
abbrev pub reads_variable : Read → List Literal → Bool
reads_variable v lits = list_any (λ x. same_read x.source v) lits

-- the variables of these products are added, and no others
pub record AddsProducts (before after : List Read) (products : List (List Literal)) : Type 0 where
  pub each : (v : Read) → are_read after v ≡ (are_read before v || list_any (reads_variable v) products)

-- these variables are added, and no others
pub record AddsSources (before after added : List Read) : Type 0 where
  pub each : (v : Read) → are_read after v ≡ (are_read before v || are_read added v)
