use Rattle.std.proofs.Common.{take}
use Rattle.structure.specs.Waking.{HasPorts}
use Rattle.structure.proofs.liveness.shown_ports.Given as goal

abbrev pub invariant-loop-port : goal.invariant-loop-port
invariant-loop-port l = HasPorts l.circuit (take l.port-index l.port-items) l.needed
