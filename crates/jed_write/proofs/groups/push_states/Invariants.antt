use Rattle.std.proofs.Common.{◌≡◌, ◌++◌, map, take}
use Rattle.mig_base.specs.WrittenFuses.{state_digit}
use Rattle.jed_write.proofs.groups.push_states.Given as goal

abbrev pub invariant-loop-state : goal.invariant-loop-state
invariant-loop-state l = l.text.items ≡ l.initial.text.items ++ map state_digit (take l.state-index l.states)
