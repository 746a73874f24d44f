use Rattle.std.proofs.Common.{◌≡◌, ◌++◌, drop}
use Rattle.std.specs.Prelude.{if◌then◌else◌}
use Rattle.trials.specs.Trials.{counted_from}
use Rattle.trials.proofs.counting.counted_step.Given as goal

abbrev pub invariant-loop-number : goal.invariant-loop-number
invariant-loop-number l =
    l.levels.items ++ counted_from (if l.both then 1 else 0) l.step l.number (drop l.number l.ports) ≡ counted_from (if l.both then 1 else 0) l.step 0 l.ports
