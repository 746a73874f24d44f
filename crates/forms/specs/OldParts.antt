-- The old products of a unit's parts, by what the unit gives.
use Rattle.std.specs.Prelude.{Bool, false, List, [], Option, Some, None, slice_get}
use Rattle.mig_base.specs.declared.circuit.Literal.{Literal}
use Rattle.mig_base.specs.declared.circuit.Gate.{Gate}
use Rattle.mig_base.specs.declared.circuit.Gives.{Gives}
use Rattle.mig_base.specs.declared.circuit.Gives.TheVariants.{Sum, Visible}
use Rattle.mig_base.specs.declared.circuit.Register.{Register}
use Rattle.mig_base.specs.declared.circuit.Circuit.{Circuit}
use Rattle.mig_base.specs.Structure.{variable_gate}
use Rattle.new_board.specs.NewChip.{gate_products}
use Rattle.new_board.specs.OneForOne.{terms_over}

-- the product of a row over variables, if it has one
abbrev pub row_before : Circuit → Gate → List (List Literal)
row_before c gate = gate_products (variable_gate c gate)

-- the terms of a register that is there
abbrev pub terms_in : Circuit → Option Register → List (List Literal)
terms_in c None = []
terms_in c (Some r) = terms_over c r.terms

-- the enable of a unit with a register that is there
abbrev pub enable_in : Circuit → Gate → Option Register → List (List Literal)
enable_in c gate None = []
enable_in c gate (Some r) = row_before c gate

-- the reset of a register that is there
abbrev pub reset_in : Circuit → Option Register → List (List Literal)
reset_in c None = []
reset_in c (Some r) = row_before c r.reset

-- the preset of a register that is there
abbrev pub preset_in : Circuit → Option Register → List (List Literal)
preset_in c None = []
preset_in c (Some r) = row_before c r.preset

-- the inversion before D of a register that is there
abbrev pub low_in : Option Register → Bool
low_in None = false
low_in (Some r) = r.low

-- the terms of a unit
abbrev pub logic_before : Circuit → Gives → List (List Literal)
logic_before c (Sum terms) = terms_over c terms
logic_before c (Visible k) = terms_in c (slice_get c.registers k)

-- the enable of a unit, which one without its register doesn't have
abbrev pub enable_before : Circuit → Gate → Gives → List (List Literal)
enable_before c gate (Sum terms) = row_before c gate
enable_before c gate (Visible k) = enable_in c gate (slice_get c.registers k)

-- the reset of a unit, which a combinational one doesn't have
abbrev pub reset_before : Circuit → Gives → List (List Literal)
reset_before c (Sum terms) = []
reset_before c (Visible k) = reset_in c (slice_get c.registers k)

-- the preset of a unit, which a combinational one doesn't have
abbrev pub preset_before : Circuit → Gives → List (List Literal)
preset_before c (Sum terms) = []
preset_before c (Visible k) = preset_in c (slice_get c.registers k)

-- the inversion of a combinational unit, or that before D
abbrev pub low_given : Circuit → Bool → Gives → Bool
low_given c low (Sum terms) = low
low_given c low (Visible k) = low_in (slice_get c.registers k)
