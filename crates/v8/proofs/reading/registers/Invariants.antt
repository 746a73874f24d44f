use Rattle.std.proofs.Common.{◌≡◌, ◌-◌, ℕ, filter, not}
use Rattle.mig_base.specs.First.{made_from}
use Rattle.mig_base.specs.Cells.{ac1_at}
use Rattle.v8.proofs.reading.registers.Given as goal

abbrev pub invariant-loop-pin : goal.invariant-loop-pin
invariant-loop-pin l = l.pins.items ≡ filter (λ (pin : ℕ). not (ac1_at l.kind l.fuses pin)) (made_from (λ (p : ℕ). p) (l.top - 7) (l.pin - (l.top - 7)))
