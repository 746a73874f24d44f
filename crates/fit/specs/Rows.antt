-- The rows of placed units whose parts break no rule.
use Rattle.std.specs.Prelude.{Bool, true, false, ◌&&◌, List, [], ◌∷◌}
use Rattle.mig_base.specs.declared.circuit.Gate.{Gate}
use Rattle.mig_base.specs.declared.circuit.Gate.TheVariants.{Never, Product}
use Rattle.new_board.specs.declared.types.PlacedUnit.{PlacedUnit}
use Rattle.plans.specs.declared.placing.Placing.{Placing}
use Rattle.plans.specs.Forms.{Products, LogicForm}
use Rattle.forms.specs.declared.logic.Form.{Form}
use Rattle.forms.specs.declared.logic.Form.TheVariants as form
use Rattle.forms.specs.declared.controls.Control.{Control}
use Rattle.forms.specs.declared.controls.Control.TheVariants as control
use Rattle.fit.specs.declared.parts.UnitParts.{UnitParts}

-- at most one product
abbrev pub is_one_row : Products → Bool
is_one_row [] = true
is_one_row (p ∷ []) = true
is_one_row (p ∷ q ∷ ps) = false

-- a part with one product at most
abbrev pub is_row : Control → Bool
is_row (control.Made products) = is_one_row products
is_row (control.Wide count) = false
is_row control.PrimesOver = false

-- a form that fits
abbrev pub is_fitting : Form → Bool
is_fitting (form.Fits low terms) = true
is_fitting (form.Wide count) = false
is_fitting form.PrimesOver = false
is_fitting (form.TermsOver needed) = false

-- Logic has a form, and each other part has one product at most
abbrev pub is_clear : UnitParts → Bool
is_clear parts = is_fitting parts.logic && (is_row parts.enable && (is_row parts.reset && is_row parts.preset))

-- at most one product as a row
abbrev pub one_gate : Products → Gate
one_gate [] = Never
one_gate (p ∷ []) = Product p
one_gate (p ∷ q ∷ ps) = Never

-- the row of a part
abbrev pub gate_by : Control → Gate
gate_by (control.Made products) = one_gate products
gate_by (control.Wide count) = Never
gate_by control.PrimesOver = Never

-- the form of Logic
abbrev pub logic_by : Form → LogicForm
logic_by (form.Fits low terms) = record { low = low; terms = terms }
logic_by (form.Wide count) = record { low = false; terms = [] }
logic_by form.PrimesOver = record { low = false; terms = [] }
logic_by (form.TermsOver needed) = record { low = false; terms = [] }

-- the rows of a placed unit
abbrev pub row_by : Placing → UnitParts → PlacedUnit
row_by x parts = record {
  pin = x.pin;
  unit = x.unit;
  low = (logic_by parts.logic).low;
  terms = (logic_by parts.logic).terms;
  enable = gate_by parts.enable;
  reset = gate_by parts.reset;
  preset = gate_by parts.preset;
}

-- the rows of placed units
abbrev pub rows_by : List Placing → List UnitParts → List PlacedUnit
rows_by [] parts = []
rows_by (x ∷ xs) [] = []
rows_by (x ∷ xs) (p ∷ ps) = row_by x p ∷ rows_by xs ps
