use Rattle.std.proofs.Common.{◌≡◌, ◌-◌, ℕ, map}
use Rattle.mig_base.specs.First.{made_from}
use Rattle.mig_base.specs.Cells.{cell_22}
use Rattle.v22.proofs.reading.cell_list.Given as goal

abbrev pub invariant-loop-pin : goal.invariant-loop-pin
invariant-loop-pin l = l.cells.items ≡ map (cell_22 l.kind l.fuses) (made_from (λ (p : ℕ). p) 14 (l.pin - 14))
