use Rattle.std.proofs.Common.{take}
use Rattle.mig_base.specs.Among.{Among}
use Rattle.structure.proofs.absorbing.is_port.Given as goal

abbrev pub invariant-loop-port : goal.invariant-loop-port
invariant-loop-port l = Among l.net (take l.port-index l.port-items) → ⊥
