use Rattle.std.proofs.Common.{take}
use Rattle.mig_base.specs.Among.{Among}
use Rattle.ranks.proofs.loops.has_node.Given as goal

abbrev pub invariant-loop-other : goal.invariant-loop-other
invariant-loop-other l = Among l.node (take l.other-index l.nodes) → ⊥
