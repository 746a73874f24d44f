use Rattle.std.proofs.Common.{◌≡◌, ◌++◌, map}
use Rattle.std.specs.List.{flat_map}
use Rattle.mig_base.specs.WrittenCells.{row_fuses}
use Rattle.mig_base.specs.Written22.{rows_of_cell}
use Rattle.v22.proofs.writing.push_cells.Given as goal

abbrev pub invariant-loop-cell : goal.invariant-loop-cell
invariant-loop-cell l = l.fuses.items ≡ l.initial.fuses.items ++ flat_map (row_fuses l.columns) (flat_map (rows_of_cell l.mode) (map (λ b. b.now) l.yielded))
