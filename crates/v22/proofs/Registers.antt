-- A GAL22V10 with two registers, a reset and a preset is well formed.
use Rattle.std.proofs.Common.{◌++◌, ◌∷◌, [], ℕ, List, Bool, map, refl, true, false, arith}
use Rattle.mig_base.specs.declared.kinds.Kind.TheVariants.{Gal22V10}
use Rattle.mig_base.specs.declared.kinds.Mode.TheVariants.{Fixed}
use Rattle.mig_base.specs.declared.cells.Row.{Row}
use Rattle.mig_base.specs.declared.cells.Row.TheVariants as row
use Rattle.mig_base.specs.declared.cells.Cell.{Cell}
use Rattle.mig_base.specs.declared.cells.ChipCells.{ChipCells}
use Rattle.mig_base.specs.First.{made_from}
use Rattle.mig_base.specs.Cells.{idle, lit_of, reg_cell_22}
use Rattle.mig_base.specs.WellFormed.{FitsCell, IsWellFormed, chip_columns}

abbrev pub register : ℕ → Bool → Cell
register pin pin_low = reg_cell_22 pin pin_low (row.Product [] ∷ [])

abbrev pub pin_row : ℕ → Row
pin_row pin = row.Product (lit_of false [] pin true ∷ [])

abbrev pub idle_cells : ℕ → List Cell
idle_cells n = register 14 true ∷ map idle (made_from (λ (p : ℕ). p) 15 n)

abbrev pub register_cells : List Cell
register_cells = idle_cells 8 ++ register 23 false ∷ []

abbrev pub chip_of : List Cell → Row → Row → ChipCells
chip_of cells reset preset = record { kind = Gal22V10; mode = Fixed; cells = cells; reset = reset; preset = preset }

abbrev the_chip : ChipCells
the_chip = chip_of register_cells (pin_row 2) (pin_row 3)

idle-fits : (pin : ℕ) → FitsCell Gal22V10 Fixed (chip_columns the_chip) (idle pin)
idle-fits pin = record { form = refl; inversions = refl; enable = refl; count = omega arith; terms = tt }

first-fits : FitsCell Gal22V10 Fixed (chip_columns the_chip) (register 14 true)
first-fits = record { form = refl; inversions = refl; enable = refl; count = omega arith; terms = tt }

last-fits : FitsCell Gal22V10 Fixed (chip_columns the_chip) (register 23 false)
last-fits = record { form = refl; inversions = refl; enable = refl; count = omega arith; terms = tt }

pub registers-well : IsWellFormed the_chip
registers-well = record {
  mode = refl;
  pins = refl;
  cells = (first-fits, (idle-fits 15, (idle-fits 16, (idle-fits 17, (idle-fits 18, (idle-fits 19, (idle-fits 20, (idle-fits 21, (idle-fits 22, (last-fits, tt))))))))));
  reset = refl;
  preset = refl;
}
