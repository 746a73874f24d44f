-- The new chips of a plan, from the rows of its placed units.
use Rattle.std.specs.Prelude.{ℕ, List, [], ◌∷◌, Option, if◌then◌else◌}
use Rattle.std.specs.Option.{option_map}
use Rattle.mig_base.specs.declared.plans.PlanChip.{PlanChip}
use Rattle.mig_base.specs.declared.plans.Breach.{Breach}
use Rattle.mig_base.specs.declared.plans.Breach.TheVariants as breach
use Rattle.board.specs.Joined.{Joined}
use Rattle.board.specs.Variables.{var_of}
use Rattle.new_board.specs.declared.types.PlacedUnit.{PlacedUnit}
use Rattle.new_board.specs.NewChip.{NewChip}
use Rattle.new_board.specs.InputPins.{first_unserved}
use Rattle.plans.specs.declared.placing.Placing.{Placing}
use Rattle.plans.specs.Placings.{old, is_on}

-- the rows of the units that are placed on the chip of this name
abbrev pub rows_on : List ℕ → List Placing → List PlacedUnit → List PlacedUnit
rows_on name [] rows = []
rows_on name (x ∷ xs) [] = []
rows_on name (x ∷ xs) (r ∷ rs) = if is_on name x then r ∷ rows_on name xs rs else rows_on name xs rs

-- the new chip of a chip of the plan, with the rows of its units
abbrev pub chip_with : List Placing → List PlacedUnit → PlanChip → NewChip
chip_with placed rows c = record { name = c.name; kind = c.kind; mode = c.mode; units = rows_on c.name placed rows }

-- the breach of a new chip whose rows need a variable that no column reads
abbrev pub no_input : Joined → NewChip → Option Breach
no_input b chip = option_map (λ v. breach.NoInput chip.name (var_of b.chips v)) (first_unserved (old b) chip)
