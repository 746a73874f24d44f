use Rattle.std.proofs.Common.{◌≡◌, map}
use Rattle.std.specs.Prelude.{if◌then◌else◌}
use Rattle.mig_base.specs.First.{made_from}
use Rattle.trials.specs.Trials.{counted_from}
use Rattle.trials.proofs.counting.counted_steps.Given as goal

abbrev pub invariant-loop-step : goal.invariant-loop-step
invariant-loop-step l = map (λ given. given.levels) l.steps.items ≡ made_from (λ n. counted_from (if l.both then 1 else 0) n 0 l.ports) 0 l.step
