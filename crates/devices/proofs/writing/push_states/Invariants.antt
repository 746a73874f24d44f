use Rattle.std.proofs.Common.{◌≡◌, ◌++◌, replicate}
use Rattle.devices.proofs.writing.push_states.Given as goal

abbrev pub invariant-loop-fuse : goal.invariant-loop-fuse
invariant-loop-fuse l = l.fuses.items ≡ l.initial.fuses.items ++ replicate l._fuse l.state
