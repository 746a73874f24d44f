use Rattle.std.proofs.Common.{take}
use Rattle.mig_base.specs.declared.circuit.Read.{Read}
use Rattle.mig_base.specs.Among.{Among}
use Rattle.ranks.specs.Ways.{IsStep}
use Rattle.ranks.proofs.loops.first_step.Given as goal

abbrev pub invariant-loop-node : goal.invariant-loop-node
invariant-loop-node l = (v : Read) → Among v (take l.node-index l.nodes) → IsStep l.reads l.ways l.steps v → ⊥
