use Rattle.std.proofs.Common.{◌≡◌, ◌++◌, map}
use Rattle.std.specs.List.{flat_map}
use Rattle.mig_base.specs.WellFormed.{chip_columns}
use Rattle.mig_base.specs.WrittenCells.{cell_rows, row_fuses}
use Rattle.v8.proofs.writing.push_array.Given as goal

abbrev pub invariant-loop-cell : goal.invariant-loop-cell
invariant-loop-cell l = l.fuses.items ≡ l.initial.fuses.items ++ flat_map (row_fuses (chip_columns l.cells)) (flat_map (cell_rows l.cells.mode 8) (map (λ b. b.now) l.yielded))
