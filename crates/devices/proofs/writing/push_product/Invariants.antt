use Rattle.std.proofs.Common.{◌≡◌, ◌++◌, take}
use Rattle.mig_base.specs.declared.cells.Row.TheVariants as row
use Rattle.mig_base.specs.WrittenCells.{row_fuses}
use Rattle.devices.proofs.writing.push_product.Given as goal

abbrev pub invariant-loop-column : goal.invariant-loop-column
invariant-loop-column l = l.fuses.items ≡ l.initial.fuses.items ++ row_fuses (take l.column-index l.columns) (row.Product l.lits)
