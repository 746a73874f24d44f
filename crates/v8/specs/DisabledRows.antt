-- The rows of a GAL16V8 or GAL20V8 over the literals of its columns.
use Rattle.std.specs.Prelude.{ℕ, ◌+◌, Bool, List, if◌then◌else◌}
use Rattle.mig_base.specs.declared.kinds.Kind.{Kind}
use Rattle.mig_base.specs.declared.cells.Lit.{Lit}
use Rattle.mig_base.specs.declared.cells.Row.{Row}
use Rattle.mig_base.specs.declared.cells.Row.TheVariants as row
use Rattle.mig_base.specs.DeviceTables.{array_width}
use Rattle.mig_base.specs.Cells.{array_size, bit_at, row_at, row_of}

-- a row is constant 0 where its disable bit is 0, and stands as its fuses say where it is 1
abbrev pub row_over : Kind → List Lit → List Bool → ℕ → Row
row_over kind columns bits r =
    if bit_at bits (array_size kind + 80 + r)
    then row_of columns (row_at (array_width kind) bits r)
    else row.Never
