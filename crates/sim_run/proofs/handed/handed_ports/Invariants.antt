use Rattle.std.proofs.Common.{◌≡◌, ◌+◌, ◌++◌, drop}
use Rattle.sim_run.specs.ScriptText.{ports_from, ports_of}
use Rattle.sim_run.proofs.handed.handed_ports.Given as goal

abbrev pub invariant-loop-k : goal.invariant-loop-k
invariant-loop-k l = l.ports.items ++ ports_from (l.k + 2) (drop l.k l.nets) ≡ ports_of l.net
