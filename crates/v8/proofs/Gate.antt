-- A GAL16V8 in complex mode with one gate is well formed.
use Rattle.std.proofs.Common.{◌++◌, ◌∷◌, [], ℕ, List, map, refl, true, false, arith}
use Rattle.mig_base.specs.declared.kinds.Kind.TheVariants.{Gal16V8}
use Rattle.mig_base.specs.declared.kinds.Mode.TheVariants.{Complex}
use Rattle.mig_base.specs.declared.cells.Source.TheVariants.{Pin}
use Rattle.mig_base.specs.declared.cells.Lit.{Lit}
use Rattle.mig_base.specs.declared.cells.Row.TheVariants as row
use Rattle.mig_base.specs.declared.cells.Enable.TheVariants as enable
use Rattle.mig_base.specs.declared.cells.Form.TheVariants as form
use Rattle.mig_base.specs.declared.cells.Cell.{Cell}
use Rattle.mig_base.specs.declared.cells.ChipCells.{ChipCells}
use Rattle.mig_base.specs.First.{made_from}
use Rattle.mig_base.specs.Cells.{idle}
use Rattle.mig_base.specs.WellFormed.{FitsCell, IsWellFormed, chip_columns}

abbrev pub gate_cell : List (List Lit) → Cell
gate_cell terms = record { pin = 19; form = form.Comb; low = true; pin_low = false; enable = enable.Always; terms = terms }

abbrev pub gate_lits : List Lit
gate_lits = record { source = Pin 2; high = true } ∷ record { source = Pin 3; high = false } ∷ []

abbrev pub gate_cells : List Cell
gate_cells = map idle (made_from (λ (p : ℕ). p) 12 7) ++ gate_cell (gate_lits ∷ []) ∷ []

abbrev pub chip_of : List Cell → ChipCells
chip_of cells = record { kind = Gal16V8; mode = Complex; cells = cells; reset = row.Never; preset = row.Never }

idle-fits : (pin : ℕ) → FitsCell Gal16V8 Complex (chip_columns (chip_of gate_cells)) (idle pin)
idle-fits pin = record { form = refl; inversions = refl; enable = refl; count = omega arith; terms = tt }

gate-fits : FitsCell Gal16V8 Complex (chip_columns (chip_of gate_cells)) (gate_cell (gate_lits ∷ []))
gate-fits = record { form = refl; inversions = refl; enable = refl; count = omega arith; terms = (refl, tt) }

pub gate-well : IsWellFormed (chip_of gate_cells)
gate-well = record {
  mode = refl;
  pins = refl;
  cells = (idle-fits 12, (idle-fits 13, (idle-fits 14, (idle-fits 15, (idle-fits 16, (idle-fits 17, (idle-fits 18, (gate-fits, tt))))))));
  reset = refl;
  preset = refl;
}
