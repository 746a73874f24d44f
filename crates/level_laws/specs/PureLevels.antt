-- Levels of pure nodes, and what steps from power-up lead to.
use Rattle.std.specs.Prelude.{ℕ, ◌≡◌, ◌<◌, List, [], ◌∷◌, length, Option, Some, slice_get}
use Rattle.mig_base.specs.declared.levels.Level.{Level}
use Rattle.mig_base.specs.declared.circuit.Read.{Read}
use Rattle.mig_base.specs.declared.circuit.Read.TheVariants.{OfNet, OfRegister}
use Rattle.mig_base.specs.declared.circuit.Circuit.{Circuit}
use Rattle.mig_base.specs.declared.circuit.Levels.{Levels}
use Rattle.mig_base.specs.Levels.{level_at}
use Rattle.mig_base.specs.Values.{node_level}
use Rattle.level_laws.specs.Settled.{IsSettled}
use Rattle.level_laws.specs.Runs.{IsStep}
use Rattle.level_laws.specs.SameBehaviour.{IsBit}
use Rattle.structure.specs.Live.{StandsBehind}
use Rattle.structure.specs.Pure.{IsPure}

-- each driver of a net is a unit of the board
abbrev pub DriversAreUnits : Circuit → Type 0
DriversAreUnits c = (n u : ℕ) → StandsBehind c u (OfNet n) → u < length c.units

-- each pure register stores 0 or 1
abbrev pub HasPureStored : Circuit → List Level → Type 0
HasPureStored c stored = (k : ℕ) → IsPure c (OfRegister k) → IsBit (level_at stored k)

-- each pure net and the visible Q of each pure register is 0 or 1
abbrev pub HasPureLevels : Circuit → Levels → Type 0
HasPureLevels c l = (v : Read) → IsPure c v → IsBit (node_level l v)

-- each port whose net is pure is shown 0 or 1
abbrev pub ShowsPure : Circuit → List Level → Type 0
ShowsPure c shown = (i n : ℕ) → slice_get c.ports i ≡ Some n → IsPure c (OfNet n) → IsBit (level_at shown i)

-- from these stored levels and last inputs, steps to these inputs, one after another, lead to those
abbrev pub LeadsTo : Circuit → List Level → Option (List Level) → List (List Level) → List Level → Option (List Level) → Type 0
LeadsTo c stored last [] now after = (now ≡ stored) × (after ≡ last)
LeadsTo c stored last (inputs ∷ rest) now after =
    (next : List Level) × IsStep c stored last inputs next × LeadsTo c next (Some inputs) rest now after

-- pure registers store 0 or 1 and, once there were inputs, all pure nodes settle at 0 or 1 under them
pub record IsPureAfter (c : Circuit) (stored : List Level) (last : Option (List Level)) : Type 0 where
  pub stored_levels : HasPureStored c stored
  pub levels : (inputs : List Level) (l : Levels) → last ≡ Some inputs → IsSettled c stored inputs l → HasPureLevels c l
