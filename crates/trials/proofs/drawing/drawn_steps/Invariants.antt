use Rattle.std.proofs.Common.{◌≡◌, ◌++◌, ◌-◌, map}
use Rattle.trials.specs.Trials.{drawn_steps}
use Rattle.trials.proofs.drawing.drawn_steps.Given as goal

abbrev pub invariant-loop-done : goal.invariant-loop-done
invariant-loop-done l = map (λ given. given.levels) l.steps.items ++ drawn_steps (l.count - l.done) l.ports l.number ≡ drawn_steps l.count l.ports l.start
