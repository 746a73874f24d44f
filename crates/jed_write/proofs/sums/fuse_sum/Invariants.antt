use Rattle.std.proofs.Common.{◌≡◌, ◌+◌, ◌%◌, drop}
use Rattle.mig_base.specs.FuseText.{fuse_sum, fuse_sum_from}
use Rattle.jed_write.proofs.sums.fuse_sum.Given as goal

abbrev pub invariant-loop-fuse : goal.invariant-loop-fuse
invariant-loop-fuse l = (l.total + fuse_sum_from l.fuse (drop l.fuse l.states)) % 65536 ≡ fuse_sum l.states
