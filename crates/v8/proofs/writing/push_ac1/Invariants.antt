use Rattle.std.proofs.Common.{◌≡◌, ◌++◌, map}
use Rattle.mig_base.specs.WrittenCells.{ac1_fuse}
use Rattle.v8.proofs.writing.push_ac1.Given as goal

abbrev pub invariant-loop-cell : goal.invariant-loop-cell
invariant-loop-cell l = l.fuses.items ≡ l.initial.fuses.items ++ map (ac1_fuse l.mode) (map (λ b. b.now) l.yielded)
