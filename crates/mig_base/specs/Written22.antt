-- The fuses that are written for the cells of a GAL22V10.
use Rattle.std.specs.Prelude.{ℕ, ◌+◌, Bool, true, false, not, List, [], ◌∷◌, ◌++◌, replicate, reverse}
use Rattle.std.specs.List.{flat_map}
use Rattle.mig_base.specs.declared.kinds.Mode.{Mode}
use Rattle.mig_base.specs.declared.cells.Row.{Row}
use Rattle.mig_base.specs.declared.cells.Form.{Form}
use Rattle.mig_base.specs.declared.cells.Form.TheVariants as form
use Rattle.mig_base.specs.declared.cells.Cell.{Cell}
use Rattle.mig_base.specs.declared.cells.ChipCells.{ChipCells}
use Rattle.mig_base.specs.DeviceTables.{rows_22}
use Rattle.mig_base.specs.WellFormed.{chip_columns}
use Rattle.mig_base.specs.WrittenCells.{row_fuses, cell_rows}

-- the rows of a macrocell: its enable and its terms
abbrev pub row_count : ℕ → ℕ
row_count pin = (rows_22 pin).1 + 1

abbrev pub rows_of_cell : Mode → Cell → List Row
rows_of_cell mode cell = cell_rows mode (row_count cell.pin) cell

-- the rows of the array: the reset, those of the cells by falling pin, the preset
abbrev pub array_rows : ChipCells → List Row
array_rows c = c.reset ∷ (flat_map (rows_of_cell c.mode) (reverse c.cells) ++ c.preset ∷ [])

abbrev pub v22_array : ChipCells → List Bool
v22_array c = flat_map (row_fuses (chip_columns c)) (array_rows c)

-- S0 says that a pin shows the sum or Q itself
abbrev pub s0_by : Form → Bool → Bool → Bool
s0_by form.Idle low pin_low = false
s0_by form.Comb low pin_low = not low
s0_by form.Reg low pin_low = not pin_low

abbrev pub s0_fuse : Cell → Bool
s0_fuse cell = s0_by cell.form cell.low cell.pin_low

-- S1 says that a cell has no register
abbrev pub s1_by : Form → Bool
s1_by form.Idle = true
s1_by form.Comb = true
s1_by form.Reg = false

abbrev pub s1_fuse : Cell → Bool
s1_fuse cell = s1_by cell.form

abbrev pub settings : Cell → List Bool
settings cell = s0_fuse cell ∷ s1_fuse cell ∷ []

-- the array, S0 and S1 by falling pin, and a signature of zeros
abbrev pub v22_fuses : ChipCells → List Bool
v22_fuses c = v22_array c ++ (flat_map settings (reverse c.cells) ++ replicate 64 false)
