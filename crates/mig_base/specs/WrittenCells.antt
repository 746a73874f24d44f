-- The fuses that are written for the cells of a chip.
use Rattle.std.specs.Prelude.{ℕ, ◌-◌, Bool, true, false, not, List, [], ◌∷◌, ◌++◌, length, map, replicate, reverse}
use Rattle.std.specs.List.{list_any, flat_map}
use Rattle.mig_base.specs.declared.kinds.Mode.{Mode}
use Rattle.mig_base.specs.declared.kinds.Mode.TheVariants.{Simple, Registered}
use Rattle.mig_base.specs.declared.cells.Lit.{Lit}
use Rattle.mig_base.specs.declared.cells.Row.{Row}
use Rattle.mig_base.specs.declared.cells.Row.TheVariants as row
use Rattle.mig_base.specs.declared.cells.Enable.{Enable}
use Rattle.mig_base.specs.declared.cells.Enable.TheVariants as enable
use Rattle.mig_base.specs.declared.cells.Form.{Form}
use Rattle.mig_base.specs.declared.cells.Form.TheVariants as form
use Rattle.mig_base.specs.declared.cells.Cell.{Cell}
use Rattle.mig_base.specs.declared.cells.ChipCells.{ChipCells}
use Rattle.mig_base.specs.WellFormed.{same_lit, chip_columns}

abbrev pub has_lit : List Lit → Lit → Bool
has_lit lits column = list_any (λ lit. same_lit lit column) lits

-- the fuse of a column: 0 where its literal stands in the row, and all 0 where the row is constant 0
abbrev pub column_fuse : Row → Lit → Bool
column_fuse row.Never column = false
column_fuse (row.Product lits) column = not (has_lit lits column)

abbrev pub row_fuses : List Lit → Row → List Bool
row_fuses columns r = map (column_fuse r) columns

-- the enable row of a cell that has one
abbrev pub enable_rows : Mode → Enable → List Row
enable_rows Simple e = []
enable_rows mode enable.Always = row.Product [] ∷ []
enable_rows mode enable.Never = row.Never ∷ []
enable_rows mode (enable.Term lits) = row.Product lits ∷ []
enable_rows mode (enable.LowPin pin) = []

-- so many rows: these, and then constant 0
abbrev pub filled : ℕ → List Row → List Row
filled count rows = rows ++ replicate (count - length rows) row.Never

-- the rows of a cell that has so many: its enable, its terms, the others constant 0
abbrev pub cell_rows : Mode → ℕ → Cell → List Row
cell_rows mode count cell = filled count (enable_rows mode cell.enable ++ map (λ lits. row.Product lits) cell.terms)

-- GAL16V8 and GAL20V8

abbrev pub xor_by : Form → Bool → Bool
xor_by form.Idle low = false
xor_by form.Comb low = not low
xor_by form.Reg low = low

abbrev pub xor_fuse : Cell → Bool
xor_fuse cell = xor_by cell.form cell.low

abbrev pub ac1_by : Mode → Form → Bool
ac1_by mode form.Idle = true
ac1_by Simple form.Comb = false
ac1_by mode form.Comb = true
ac1_by mode form.Reg = false

abbrev pub ac1_fuse : Mode → Cell → Bool
ac1_fuse mode cell = ac1_by mode cell.form

abbrev pub syn_fuse : Mode → Bool
syn_fuse Registered = false
syn_fuse _ = true

abbrev pub ac0_fuse : Mode → Bool
ac0_fuse Simple = false
ac0_fuse _ = true

-- the array, eight rows for each cell by falling pin
abbrev pub v8_array : ChipCells → List Bool
v8_array c = flat_map (row_fuses (chip_columns c)) (flat_map (cell_rows c.mode 8) (reverse c.cells))

-- XOR, a signature of zeros, AC1, disable bits of ones, SYN and AC0
abbrev pub v8_settings : ChipCells → List Bool
v8_settings c =
    map xor_fuse (reverse c.cells) ++ (replicate 64 false ++ (map (ac1_fuse c.mode) (reverse c.cells)
    ++ (replicate 64 true ++ (syn_fuse c.mode ∷ ac0_fuse c.mode ∷ []))))

abbrev pub v8_fuses : ChipCells → List Bool
v8_fuses c = v8_array c ++ v8_settings c
