use Rattle.std.proofs.Common.{take}
use Rattle.mig_base.specs.declared.circuit.Read.{Read}
use Rattle.mig_base.specs.Among.{Among}
use Rattle.ranks.specs.FirstLoop.{IsOnLoop}
use Rattle.ranks.proofs.loops.first_loop.Given as goal

abbrev pub invariant-loop-node : goal.invariant-loop-node
invariant-loop-node l = (v : Read) → Among v (take l.node-index l.node-items) → IsOnLoop l.circuit v → ⊥
