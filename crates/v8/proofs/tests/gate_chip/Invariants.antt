use Rattle.std.proofs.Common.{◌≡◌, ◌-◌, ℕ, map}
use Rattle.mig_base.specs.First.{made_from}
use Rattle.mig_base.specs.Cells.{idle}
use Rattle.v8.proofs.tests.gate_chip.Given as goal

abbrev pub invariant-loop-pin : goal.invariant-loop-pin
invariant-loop-pin l = l.cells.items ≡ map idle (made_from (λ (p : ℕ). p) 12 (l.pin - 12))
