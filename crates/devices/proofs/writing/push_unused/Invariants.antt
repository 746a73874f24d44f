use Rattle.std.proofs.Common.{◌≡◌, ◌++◌, replicate}
use Rattle.std.specs.List.{flat_map}
use Rattle.mig_base.specs.declared.cells.Row.TheVariants as row
use Rattle.mig_base.specs.WrittenCells.{row_fuses}
use Rattle.devices.proofs.writing.push_unused.Given as goal

abbrev pub invariant-loop-row : goal.invariant-loop-row
invariant-loop-row l = l.fuses.items ≡ l.initial.fuses.items ++ flat_map (row_fuses l.columns) (replicate l._row row.Never)
