use Rattle.std.proofs.Common.{◌≡◌, map, take}
use Rattle.mig_base.specs.Reads.{wire_reads}
use Rattle.ranks.proofs.graph.net_reads.Given as goal

abbrev pub invariant-loop-wire : goal.invariant-loop-wire
invariant-loop-wire l = l.lists ≡ map (wire_reads l.circuit) (take l.wire-index l.wire-items)
