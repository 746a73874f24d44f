-- The products of a unit's parts, over the variables of its board.
use Rattle.std.specs.Prelude.{ℕ, List, [], ◌∷◌, map, Option, Some, None, slice_get, slice_index_or}
use Rattle.mig_base.specs.declared.plans.Part.{Part}
use Rattle.mig_base.specs.declared.plans.Part.TheVariants.{Logic, Enable, Reset, Preset}
use Rattle.mig_base.specs.declared.nets.Var.{Var}
use Rattle.mig_base.specs.declared.nets.Var.TheVariants.{Net, Reg}
use Rattle.mig_base.specs.declared.nets.VarLit.{VarLit}
use Rattle.mig_base.specs.declared.nets.VarProduct.{VarProduct}
use Rattle.mig_base.specs.declared.circuit.Read.{Read}
use Rattle.mig_base.specs.declared.circuit.Read.TheVariants.{OfNet, OfRegister}
use Rattle.mig_base.specs.declared.circuit.Literal.{Literal}
use Rattle.mig_base.specs.declared.circuit.Gate.{Gate}
use Rattle.mig_base.specs.declared.circuit.Gate.TheVariants.{Never, Product}
use Rattle.mig_base.specs.declared.circuit.Gives.{Gives}
use Rattle.mig_base.specs.declared.circuit.Gives.TheVariants.{Sum, Visible}
use Rattle.mig_base.specs.declared.circuit.Driver.{Driver}
use Rattle.mig_base.specs.declared.circuit.Register.{Register}
use Rattle.mig_base.specs.declared.circuit.Circuit.{Circuit}
use Rattle.mig_base.specs.Structure.{variable_product}
use Rattle.structure.specs.declared.products.UnitProducts.{UnitProducts}

-- a variable as others name it: a register by the number of its unit, where the units of the registers are these
abbrev pub var_by : List ℕ → Read → Var
var_by units (OfNet n) = Net n
var_by units (OfRegister k) = Reg (slice_index_or units k 0)

abbrev pub var_lit : List ℕ → Literal → VarLit
var_lit units x = record { var = var_by units x.source; high = x.high }

-- a product over variables
abbrev pub product_over : Circuit → List ℕ → List Literal → VarProduct
product_over c units lits = record { lits = map (var_lit units) (variable_product c lits) }

abbrev pub sum_over : Circuit → List ℕ → List (List Literal) → List VarProduct
sum_over c units terms = map (product_over c units) terms

-- a constant 0 row has no product, and one that is always 1 has an empty one
abbrev pub row_over : Circuit → List ℕ → Gate → List VarProduct
row_over c units Never = []
row_over c units (Product lits) = product_over c units lits ∷ []

abbrev pub register_logic : Circuit → List ℕ → Option Register → List VarProduct
register_logic c units None = []
register_logic c units (Some r) = sum_over c units r.terms

abbrev pub register_reset : Circuit → List ℕ → Option Register → List VarProduct
register_reset c units None = []
register_reset c units (Some r) = row_over c units r.reset

abbrev pub register_preset : Circuit → List ℕ → Option Register → List VarProduct
register_preset c units None = []
register_preset c units (Some r) = row_over c units r.preset

-- the terms of a combinational unit, or those of a register
abbrev pub logic_over : Circuit → List ℕ → Gives → List VarProduct
logic_over c units (Sum terms) = sum_over c units terms
logic_over c units (Visible k) = register_logic c units (slice_get c.registers k)

-- a combinational unit has neither reset nor preset
abbrev pub reset_over : Circuit → List ℕ → Gives → List VarProduct
reset_over c units (Sum terms) = []
reset_over c units (Visible k) = register_reset c units (slice_get c.registers k)

abbrev pub preset_over : Circuit → List ℕ → Gives → List VarProduct
preset_over c units (Sum terms) = []
preset_over c units (Visible k) = register_preset c units (slice_get c.registers k)

-- the products of all parts of a unit
abbrev pub unit_products : Circuit → List ℕ → Driver → UnitProducts
unit_products c units d = record {
  logic = logic_over c units d.gives;
  enable = row_over c units d.enable;
  reset = reset_over c units d.gives;
  preset = preset_over c units d.gives;
}

-- those of one part
abbrev pub part_of : UnitProducts → Part → List VarProduct
part_of p Logic = p.logic
part_of p Enable = p.enable
part_of p Reset = p.reset
part_of p Preset = p.preset

abbrev pub part_over : Circuit → List ℕ → Part → Option Driver → List VarProduct
part_over c units part None = []
part_over c units part (Some d) = part_of (unit_products c units d) part

-- those of one part of a unit by its number
abbrev pub part_products : Circuit → List ℕ → ℕ → Part → List VarProduct
part_products c units u part = part_over c units part (slice_get c.units u)
