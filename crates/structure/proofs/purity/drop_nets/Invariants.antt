use Rattle.std.proofs.Common.{ℕ, ◌≡◌, ◌<◌, true, false}
use Rattle.mig_base.specs.declared.circuit.Read.TheVariants.{OfNet}
use Rattle.structure.specs.Sweeps.{IsAbove, IsKept, size}
use Rattle.structure.proofs.purity.drop_nets.Given as goal

abbrev pub invariant-loop-net : goal.invariant-loop-net
invariant-loop-net l = record {
  above : IsAbove l.circuit l.set;
  moved : l.moved ≡ true → size l.set < size l.fn.set;
  stays : l.moved ≡ false → l.set ≡ l.fn.set;
  kept : l.moved ≡ false → (n : ℕ) → n < l.net → IsKept l.circuit l.fn.set (OfNet n);
}
