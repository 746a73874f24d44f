use Rattle.std.proofs.Common.{◌≡◌, ◌-◌}
use Rattle.mig_base.specs.First.{made_from}
use Rattle.v8.specs.DisabledRows.{row_over}
use Rattle.v8.proofs.reading.rows.Given as goal

abbrev pub invariant-loop-r : goal.invariant-loop-r
invariant-loop-r l = l.rows.items ≡ made_from (row_over l.kind l.columns l.fuses) l.first (l.r - l.first)
