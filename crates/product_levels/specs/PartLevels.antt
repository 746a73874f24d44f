-- The values of a unit's parts by their rows, and the levels of a board's variables.
use Rattle.std.specs.Prelude.{ℕ, Option, Some, None, slice_get}
use Rattle.mig_base.specs.declared.levels.Level.{Level}
use Rattle.mig_base.specs.declared.levels.Level.TheVariants.{Zero}
use Rattle.mig_base.specs.declared.plans.Part.{Part}
use Rattle.mig_base.specs.declared.plans.Part.TheVariants.{Logic, Enable, Reset, Preset}
use Rattle.mig_base.specs.declared.nets.Var.{Var}
use Rattle.mig_base.specs.declared.circuit.Gives.{Gives}
use Rattle.mig_base.specs.declared.circuit.Gives.TheVariants.{Sum, Visible}
use Rattle.mig_base.specs.declared.circuit.Driver.{Driver}
use Rattle.mig_base.specs.declared.circuit.Register.{Register}
use Rattle.mig_base.specs.declared.circuit.Circuit.{Circuit}
use Rattle.mig_base.specs.declared.circuit.Levels.{Levels}
use Rattle.mig_base.specs.Values.{source_level, sum_value, row_value}
use Rattle.board.specs.Joined.{Joined}
use Rattle.board.specs.Variables.{read_of}

-- the level of a variable of a board, as literals read it
abbrev pub variable_level : Joined → Levels → Var → Level
variable_level b l v = source_level l (read_of b.chips v)

-- the value of the terms, the reset and the preset of a register; 0 of none
abbrev pub terms_of_register : Levels → Option Register → Level
terms_of_register l None = Zero
terms_of_register l (Some r) = sum_value l r.terms

abbrev pub reset_of_register : Levels → Option Register → Level
reset_of_register l None = Zero
reset_of_register l (Some r) = row_value l r.reset

abbrev pub preset_of_register : Levels → Option Register → Level
preset_of_register l None = Zero
preset_of_register l (Some r) = row_value l r.preset

-- the terms of a combinational unit, or those of a register, before any inversion
abbrev pub logic_value : Circuit → Levels → Gives → Level
logic_value c l (Sum terms) = sum_value l terms
logic_value c l (Visible k) = terms_of_register l (slice_get c.registers k)

-- a combinational unit has neither reset nor preset
abbrev pub reset_value : Circuit → Levels → Gives → Level
reset_value c l (Sum terms) = Zero
reset_value c l (Visible k) = reset_of_register l (slice_get c.registers k)

abbrev pub preset_value : Circuit → Levels → Gives → Level
preset_value c l (Sum terms) = Zero
preset_value c l (Visible k) = preset_of_register l (slice_get c.registers k)

-- the value of a part's rows
abbrev pub driver_value : Circuit → Levels → Driver → Part → Level
driver_value c l d Logic = logic_value c l d.gives
driver_value c l d Enable = row_value l d.enable
driver_value c l d Reset = reset_value c l d.gives
driver_value c l d Preset = preset_value c l d.gives

abbrev pub value_or_none : Circuit → Levels → Part → Option Driver → Level
value_or_none c l part None = Zero
value_or_none c l part (Some d) = driver_value c l d part

-- the same of a unit by its number
abbrev pub part_value : Circuit → Levels → ℕ → Part → Level
part_value c l u part = value_or_none c l part (slice_get c.units u)
