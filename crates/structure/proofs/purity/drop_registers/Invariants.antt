use Rattle.std.proofs.Common.{ℕ, ◌≡◌, ◌<◌, true, false}
use Rattle.mig_base.specs.declared.circuit.Read.TheVariants.{OfRegister}
use Rattle.structure.specs.Sweeps.{IsAbove, IsKept, size}
use Rattle.structure.proofs.purity.drop_registers.Given as goal

abbrev pub invariant-loop-place : goal.invariant-loop-place
invariant-loop-place l = record {
  above : IsAbove l.circuit l.set;
  moved : l.moved ≡ true → size l.set < size l.fn.set;
  stays : l.moved ≡ false → l.set ≡ l.fn.set;
  kept : l.moved ≡ false → (k : ℕ) → k < l.place → IsKept l.circuit l.fn.set (OfRegister k);
}
