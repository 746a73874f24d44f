use Rattle.std.proofs.Common.{◌≡◌, ◌++◌, map}
use Rattle.mig_base.specs.WrittenCells.{xor_fuse}
use Rattle.v8.proofs.writing.push_xor.Given as goal

abbrev pub invariant-loop-cell : goal.invariant-loop-cell
invariant-loop-cell l = l.fuses.items ≡ l.initial.fuses.items ++ map xor_fuse (map (λ b. b.now) l.yielded)
