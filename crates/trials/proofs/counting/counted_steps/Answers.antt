use Rattle.std.proofs.Common.{ℕ}
use Rattle.std.specs.Prelude.{if◌then◌else◌}
use Rattle.trials.specs.Trials.{counted_from}
use Rattle.trials.proofs.MoreSteps.{counted-more}
use Rattle.trials.proofs.counting.counted_steps.Goals as goal

pub loop-step-preserved : goal.loop-step-preserved
loop-step-preserved c =
    counted-more (λ (n : ℕ). counted_from (if c.args.both then 1 else 0) n 0 c.args.ports.now) c.loop-step.steps.items c.push.new.self.items c.in_ok-counted_step.field-0 c.loop-step.step c.in_ok-push.ensures.items
    c.in_ok-counted_step.ensures c.loop-step.invariant
