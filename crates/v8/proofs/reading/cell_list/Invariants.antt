use Rattle.std.proofs.Common.{◌≡◌, ◌-◌, ℕ, map}
use Rattle.mig_base.specs.First.{made_from}
use Rattle.mig_base.specs.Cells.{v8_cell}
use Rattle.v8.proofs.reading.cell_list.Given as goal

abbrev pub invariant-loop-pin : goal.invariant-loop-pin
invariant-loop-pin l = l.cells.items ≡ map (v8_cell l.kind l.mode l.fuses) (made_from (λ (p : ℕ). p) (l.top - 7) (l.pin - (l.top - 7)))
