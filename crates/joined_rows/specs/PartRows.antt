-- The parts of units as equations of nodes, and rows over variables as rows of nodes.
use Rattle.std.specs.Prelude.{ℕ, ◌≡◌, List, [], map, Option, Some, None, slice_get}
use Rattle.mig_base.specs.declared.levels.Level.{Level}
use Rattle.mig_base.specs.declared.plans.Part.{Part}
use Rattle.mig_base.specs.declared.plans.Part.TheVariants.{Logic, Enable, Reset, Preset}
use Rattle.mig_base.specs.declared.nets.VarProduct.{VarProduct}
use Rattle.mig_base.specs.declared.circuit.Literal.{Literal}
use Rattle.mig_base.specs.declared.circuit.Gives.{Gives}
use Rattle.mig_base.specs.declared.circuit.Gives.TheVariants.{Sum, Visible}
use Rattle.mig_base.specs.declared.circuit.Driver.{Driver}
use Rattle.mig_base.specs.declared.circuit.Register.{Register}
use Rattle.mig_base.specs.declared.circuit.Circuit.{Circuit}
use Rattle.mig_base.specs.Values.{inverted}
use Rattle.board.specs.Joined.{Joined, equations_of}
use Rattle.board.specs.Variables.{read_of}
use Rattle.joiner.specs.Joined.{part_low}
use Rattle.fitting_levels.specs.NodeValues.{NodeLevels, terms_by}
use Rattle.placed_boards.specs.Rows.{gate_terms, AreOfBoard}

abbrev pub register_terms : Option Register → List (List Literal)
register_terms None = []
register_terms (Some r) = r.terms

abbrev pub reset_terms : Option Register → List (List Literal)
reset_terms None = []
reset_terms (Some r) = gate_terms r.reset

abbrev pub preset_terms : Option Register → List (List Literal)
preset_terms None = []
preset_terms (Some r) = gate_terms r.preset

abbrev pub logic_terms : Circuit → Gives → List (List Literal)
logic_terms c (Sum ts) = ts
logic_terms c (Visible k) = register_terms (slice_get c.registers k)

abbrev pub resetting_terms : Circuit → Gives → List (List Literal)
resetting_terms c (Sum ts) = []
resetting_terms c (Visible k) = reset_terms (slice_get c.registers k)

abbrev pub presetting_terms : Circuit → Gives → List (List Literal)
presetting_terms c (Sum ts) = []
presetting_terms c (Visible k) = preset_terms (slice_get c.registers k)

-- the products of a part, as they stand in the equations
abbrev pub raw_part : Circuit → Driver → Part → List (List Literal)
raw_part c d Logic = logic_terms c d.gives
raw_part c d Enable = gate_terms d.enable
raw_part c d Reset = resetting_terms c d.gives
raw_part c d Preset = presetting_terms c d.gives

-- the level of a part
abbrev pub part_level : Circuit → Driver → Part → NodeLevels → Level
part_level c d part f = inverted (part_low c d part) (terms_by f (raw_part c d part))

-- a product over variables as one over nodes
abbrev pub row_of : Joined → VarProduct → List Literal
row_of b p = map (λ x. record { source = read_of b.chips x.var; high = x.high }) p.lits

-- all literals of a board are of its nodes
pub record HasOwnLiterals (b : Joined) : Type 0 where
  pub each : (u : ℕ) (d : Driver) (part : Part) → slice_get (equations_of b).units u ≡ Some d → AreOfBoard (equations_of b) (raw_part (equations_of b) d part)
