use Rattle.std.proofs.Common.{◌≡◌, take}
use Rattle.fit.specs.Rows.{rows_by}
use Rattle.fit.proofs.rows.clear_rows.Given as goal

abbrev pub invariant-loop-i : goal.invariant-loop-i
invariant-loop-i l = l.rows.items ≡ rows_by (take l.i l.units) (take l.i l.parts)
