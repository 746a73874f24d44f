use Rattle.std.proofs.Common.{◌≡◌, ◌++◌, drop}
use Rattle.trials.specs.Trials.{drawn_step, stirred}
use Rattle.trials.proofs.drawing.drawn_step.Given as goal

abbrev pub invariant-loop-port : goal.invariant-loop-port
invariant-loop-port l = record {
  levels : l.levels.items ++ drawn_step (drop l.port-index l.ports) l.number ≡ drawn_step l.ports l.start;
  last : stirred (drop l.port-index l.ports) l.number ≡ stirred l.ports l.start;
}
