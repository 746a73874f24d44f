use Rattle.std.proofs.Common.{◌≡◌, ℕ, ◌-◌, length}
use Rattle.mig_base.specs.First.{made_from}
use Rattle.mig_base.specs.Cells.{row_at, row_of}
use Rattle.devices.proofs.reading.rows.Given as goal

abbrev pub invariant-loop-r : goal.invariant-loop-r
invariant-loop-r l = l.rows.items ≡ made_from (λ (r : ℕ). row_of l.columns (row_at (length l.columns) l.fuses r)) l.first (l.r - l.first)
