-- The breaches of new chips: their input pins and their rows.
use Rattle.std.specs.Prelude.{◌≡◌, Bool, true, false, Option, Some, None}
use Rattle.mig_base.specs.declared.plans.Plan.{Plan}
use Rattle.mig_base.specs.declared.plans.PlanChip.{PlanChip}
use Rattle.mig_base.specs.declared.plans.Breach.{Breach}
use Rattle.mig_base.specs.declared.plans.Breach.TheVariants as breach
use Rattle.mig_base.specs.declared.circuit.Read.{Read}
use Rattle.board.specs.Joined.{Joined}
use Rattle.board.specs.Variables.{var_of}
use Rattle.new_board.specs.declared.types.PlacedUnit.{PlacedUnit}
use Rattle.new_board.specs.NewChip.{OldBoard, NewChip, unit_on}
use Rattle.new_board.specs.NewFiles.{has_full_row}
use Rattle.new_board.specs.InputPins.{first_unserved}
use Rattle.plans.specs.declared.placing.Placing.{Placing}
use Rattle.plans.specs.Placings.{old}
use Rattle.plans.specs.Forms.{IsNewChip}

-- a needed variable of a chip gets no pin, or can't be wired
pub record GivesNoInput (b : Joined) (p : Plan) (c : PlanChip) (y : Breach) : Type 0 where
  pub chip : NewChip
  pub is_new : IsNewChip b p c chip
  pub variable : Read
  pub first : first_unserved (old b) chip ≡ Some variable
  pub names : y ≡ breach.NoInput c.name (var_of b.chips variable)

-- whether this unit, if it is one, has a full row
abbrev pub unit_is_full : OldBoard → NewChip → Option PlacedUnit → Bool
unit_is_full b chip None = false
unit_is_full b chip (Some x) = has_full_row b chip x

-- a row of the unit, or its chip's reset or preset row, would have every fuse intact
pub record GivesFullRow (b : Joined) (p : Plan) (x : Placing) (y : Breach) : Type 0 where
  pub chip : NewChip
  pub is_new : IsNewChip b p x.chip chip
  pub full : unit_is_full (old b) chip (unit_on chip.units x.pin) ≡ true
  pub names : y ≡ breach.FullRow x.name
