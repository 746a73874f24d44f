use Rattle.std.proofs.Common.{◌≡◌, map, take}
use Rattle.mig_base.specs.Values.{row_reads}
use Rattle.ranks.proofs.graph.register_reads.Given as goal

abbrev pub invariant-loop-register : goal.invariant-loop-register
invariant-loop-register l = l.lists ≡ map (λ register. row_reads register.reset) (take l.register-index l.register-items)
