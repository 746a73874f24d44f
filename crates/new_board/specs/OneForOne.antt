-- Each old chip becomes one of the same name, and each unit keeps its pin and its rows.
use Rattle.std.specs.Prelude.{ℕ, ◌+◌, false, ◌==◌, List, [], ◌∷◌, ◌++◌, map, if◌then◌else◌, Option, Some, None, slice_get}
use Rattle.mig_base.specs.declared.kinds.Kind.{Kind}
use Rattle.mig_base.specs.declared.kinds.Kind.TheVariants.{Pal16L8, Pal16R4, Pal16R6, Pal16R8, Pal20L8, Pal20R4, Pal20R6, Pal20R8, Gal16V8, Gal20V8}
use Rattle.mig_base.specs.declared.kinds.Mode.{Mode}
use Rattle.mig_base.specs.declared.kinds.Mode.TheVariants.{Complex, Registered}
use Rattle.mig_base.specs.declared.cells.ChipCells.{ChipCells}
use Rattle.mig_base.specs.declared.nets.Net.{Net}
use Rattle.mig_base.specs.declared.nets.ChipLine.{ChipLine}
use Rattle.mig_base.specs.declared.circuit.Literal.{Literal}
use Rattle.mig_base.specs.declared.circuit.Gate.TheVariants.{Never}
use Rattle.mig_base.specs.declared.circuit.Gives.{Gives}
use Rattle.mig_base.specs.declared.circuit.Gives.TheVariants.{Sum, Visible}
use Rattle.mig_base.specs.declared.circuit.Driver.{Driver}
use Rattle.mig_base.specs.declared.circuit.Register.{Register}
use Rattle.mig_base.specs.declared.circuit.Circuit.{Circuit}
use Rattle.mig_base.specs.declared.plans.Plan.{Plan}
use Rattle.mig_base.specs.declared.plans.PlanChip.{PlanChip}
use Rattle.mig_base.specs.declared.plans.PlanLine.{PlanLine}
use Rattle.mig_base.specs.declared.plans.PlanLine.TheVariants.{Place}
use Rattle.mig_base.specs.Boards.{ChipUnit, units_from, circuit}
use Rattle.mig_base.specs.Structure.{variable_product, variable_gate}
use Rattle.mig_base.specs.WrittenBoard.{chip_name}
use Rattle.new_board.specs.declared.types.PlacedUnit.{PlacedUnit}
use Rattle.new_board.specs.NewChip.{OldBoard, NewChip}

-- the old board by its wiring and the cells of its chips
abbrev pub old_board : Net → List ChipCells → OldBoard
old_board net chips = record { net = net; units = units_from 0 chips; circuit = circuit net chips }

-- a PAL becomes the V8 of its size, a GAL stays what it is
abbrev pub gal_kind : Kind → Kind
gal_kind Pal16L8 = Gal16V8
gal_kind Pal16R4 = Gal16V8
gal_kind Pal16R6 = Gal16V8
gal_kind Pal16R8 = Gal16V8
gal_kind Pal20L8 = Gal20V8
gal_kind Pal20R4 = Gal20V8
gal_kind Pal20R6 = Gal20V8
gal_kind Pal20R8 = Gal20V8
gal_kind kind = kind

-- in complex mode without registered pins, else in registered mode
abbrev pub gal_mode : Kind → Mode → Mode
gal_mode Pal16L8 mode = Complex
gal_mode Pal20L8 mode = Complex
gal_mode Pal16R4 mode = Registered
gal_mode Pal16R6 mode = Registered
gal_mode Pal16R8 mode = Registered
gal_mode Pal20R4 mode = Registered
gal_mode Pal20R6 mode = Registered
gal_mode Pal20R8 mode = Registered
gal_mode kind mode = mode

-- the old rows of a unit, over variables

-- the terms of a sum, over variables
abbrev pub terms_over : Circuit → List (List Literal) → List (List Literal)
terms_over c terms = map (variable_product c) terms

-- a unit without rows
abbrev pub no_rows : ℕ → ℕ → PlacedUnit
no_rows pin u = record { pin = pin; unit = u; low = false; terms = []; enable = Never; reset = Never; preset = Never }

-- the old rows of a combinational unit
abbrev pub old_comb : Circuit → ℕ → ℕ → Driver → List (List Literal) → PlacedUnit
old_comb c pin u d terms =
    record { pin = pin; unit = u; low = d.low; terms = terms_over c terms; enable = variable_gate c d.enable; reset = Never; preset = Never }

-- the old rows of a registered unit, by its register
abbrev pub old_reg : Circuit → ℕ → ℕ → Driver → Option Register → PlacedUnit
old_reg c pin u d None = no_rows pin u
old_reg c pin u d (Some r) = record {
  pin = pin;
  unit = u;
  low = r.low;
  terms = terms_over c r.terms;
  enable = variable_gate c d.enable;
  reset = variable_gate c r.reset;
  preset = variable_gate c r.preset;
}

-- the old rows of a unit by what it gives
abbrev pub old_giving : Circuit → ℕ → ℕ → Driver → Gives → PlacedUnit
old_giving c pin u d (Sum terms) = old_comb c pin u d terms
old_giving c pin u d (Visible k) = old_reg c pin u d (slice_get c.registers k)

-- the old rows of a unit that is there
abbrev pub old_driving : Circuit → ℕ → ℕ → Option Driver → PlacedUnit
old_driving c pin u None = no_rows pin u
old_driving c pin u (Some d) = old_giving c pin u d d.gives

-- the unit of this number on a pin, with its old rows
abbrev pub old_rows : Circuit → ℕ → ℕ → PlacedUnit
old_rows c pin u = old_driving c pin u (slice_get c.units u)

-- the units of a chip, by their pins and their numbers from here on
abbrev pub placed_from : Circuit → ℕ → ℕ → List ChipUnit → List PlacedUnit
placed_from c j u [] = []
placed_from c j u (x ∷ xs) = (if x.chip == j then old_rows c x.cell.pin u ∷ [] else []) ++ placed_from c j (u + 1) xs

-- the new chip of an old one: of its name, with its units on their pins
abbrev pub same_chip : OldBoard → ℕ → ChipLine → ChipCells → NewChip
same_chip b j line cells = record { name = line.name; kind = gal_kind line.kind; mode = gal_mode line.kind cells.mode; units = placed_from b.circuit j 0 b.units }

-- the new chips of these old ones, from this number on
abbrev pub same_chips_from : OldBoard → ℕ → List ChipLine → List ChipCells → List NewChip
same_chips_from b j [] chips = []
same_chips_from b j (line ∷ lines) [] = []
same_chips_from b j (line ∷ lines) (cells ∷ chips) = same_chip b j line cells ∷ same_chips_from b (j + 1) lines chips

-- the new chips
abbrev pub same_chips : Net → List ChipCells → List NewChip
same_chips net chips = same_chips_from (old_board net chips) 0 net.chips chips

-- a unit on its pin of the chip of its old name
abbrev pub place_line : Net → ChipUnit → PlanLine
place_line net u = Place (record { chip = chip_name net u.chip; pin = u.cell.pin }) (chip_name net u.chip) u.cell.pin

-- a chip as a plan names it
abbrev pub plan_chip : NewChip → PlanChip
plan_chip chip = record { name = chip.name; kind = chip.kind; mode = chip.mode }

-- the plan: the chips in their order, and a place line for each unit, in unit order
abbrev pub one_for_one : Net → List ChipCells → Plan
one_for_one net chips = record { chips = map plan_chip (same_chips net chips); lines = map (place_line net) (units_from 0 chips) }
