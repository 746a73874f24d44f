use Rattle.std.proofs.Common.{◌≡◌, ◌-◌, ℕ, filter, not}
use Rattle.mig_base.specs.First.{made_from}
use Rattle.mig_base.specs.Cells.{s1_at}
use Rattle.v22.proofs.reading.registers.Given as goal

abbrev pub invariant-loop-pin : goal.invariant-loop-pin
invariant-loop-pin l = l.pins.items ≡ filter (λ (pin : ℕ). not (s1_at l.fuses pin)) (made_from (λ (p : ℕ). p) 14 (l.pin - 14))
