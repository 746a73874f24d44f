use Rattle.std.proofs.Common.{◌≡◌, ◌-◌, ℕ}
use Rattle.mig_base.specs.First.{made_from}
use Rattle.mig_base.specs.DeviceTables.{top_pin}
use Rattle.mig_base.specs.Cells.{complex_refusal}
use Rattle.v8.proofs.reading.bad_complex.Given as goal

abbrev pub invariant-loop-place : goal.invariant-loop-place
invariant-loop-place l =
    complex_refusal l.kind l.fuses (made_from (λ (k : ℕ). top_pin l.kind - k) 0 8)
    ≡ complex_refusal l.kind l.fuses (made_from (λ (k : ℕ). top_pin l.kind - k) l.place (8 - l.place))
