use Rattle.std.proofs.Common.{◌≡◌, ◌++◌, drop}
use Rattle.fit.specs.NewChips.{rows_on}
use Rattle.fit.proofs.new_chips.rows_on.Given as goal

abbrev pub invariant-loop-place : goal.invariant-loop-place
invariant-loop-place l = l.units.items ++ rows_on l.name (drop l.place l.placed) (drop l.place l.rows) ≡ rows_on l.name l.placed l.rows
