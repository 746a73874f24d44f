-- The table of absorbed nets.
use Rattle.std.specs.Prelude.{ℕ, ◌≡◌, ◌↔◌, ◌<◌, List, [], ◌∷◌, length, Option, Some, None, slice_get, slice_index_or, true, false, Bool, if◌then◌else◌}
use Rattle.mig_base.specs.Among.{Among}
use Rattle.mig_base.specs.declared.nets.VarProduct.{VarProduct}
use Rattle.structure.specs.Absorbable.{IsAbsorbable}
use Rattle.mig_base.specs.declared.nets.VarLit.{VarLit}
use Rattle.board.specs.Joined.{Joined, equations_of}
use Rattle.board.specs.Variables.{IsVariable}
use Rattle.joiner.specs.Joined.{IsAbsorbed, StandsIn}

-- one entry a net: the absorbed unit that alone drives it, if one does
pub record AreAbsorbedNets (b : Joined) (absorbed : List ℕ) (nets : List (Option ℕ)) : Type 0 where
  pub long : length nets ≡ length (equations_of b).nets
  pub each : (n u : ℕ) → (slice_get nets n ≡ Some (Some u)) ↔ IsAbsorbed b absorbed n u

-- each of these units may be absorbed
abbrev pub AreAbsorbable : Joined → List ℕ → Type 0
AreAbsorbable b absorbed = (u : ℕ) → Among u absorbed → IsAbsorbable (equations_of b) u

-- the table of some units that may be absorbed
pub record IsAbsorbedTable (b : Joined) (absorbed : List ℕ) (nets : List (Option ℕ)) : Type 0 where
  pub are : AreAbsorbedNets b absorbed nets
  pub may : AreAbsorbable b absorbed

-- all literals are of variables of the board
abbrev pub AreOver : Joined → List VarProduct → Type 0
AreOver b terms = (x : VarLit) → StandsIn x terms → IsVariable b x.var

-- whether each unit of so many is listed
pub record AreListed (units : ℕ) (absorbed : List ℕ) (flags : List Bool) : Type 0 where
  pub long : length flags ≡ units
  pub each : (u : ℕ) → u < units → (slice_index_or flags u false ≡ true) ↔ Among u absorbed

-- the only one of these units, where it is listed
abbrev pub sole_listed : List Bool → List ℕ → Option ℕ
sole_listed flags [] = None
sole_listed flags (u ∷ []) = if slice_index_or flags u false then Some u else None
sole_listed flags (u ∷ w ∷ us) = None
