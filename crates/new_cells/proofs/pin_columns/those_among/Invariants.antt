use Rattle.std.proofs.Common.{◌≡◌, ◌++◌, drop}
use Rattle.std.specs.Prelude.{filter}
use Rattle.std.specs.List.{list_any}
use Rattle.mig_base.specs.WellFormed.{same_lit}
use Rattle.new_cells.proofs.pin_columns.those_among.Given as goal

abbrev pub invariant-loop-column : goal.invariant-loop-column
invariant-loop-column l = l.kept.items ++ filter (λ y. list_any (same_lit y) l.lits) (drop l.column-index l.columns) ≡ filter (λ y. list_any (same_lit y) l.lits) l.columns
