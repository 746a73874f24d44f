use Rattle.std.proofs.Common.{◌≡◌, take, drop, map}
use Rattle.sim_run.specs.ScriptText.{left_refusal}
use Rattle.sim_run.specs.Statements.{IsTable}
use Rattle.sim_run.proofs.naming.slots.Given as goal

abbrev pub invariant-loop-port : goal.invariant-loop-port
invariant-loop-port l = record {
  left : left_refusal (map (λ w. w.now) l.names) (drop l.port-index l.ports) ≡ left_refusal (map (λ w. w.now) l.names) l.ports;
  table : IsTable (map (λ w. w.now) l.names) (take l.port-index l.ports) l.slots.items;
}
