use Rattle.std.proofs.Common.{◌≡◌, take}
use Rattle.std.specs.Prelude.{slice_get}
use Rattle.std.specs.List.{flat_map}
use Rattle.mig_base.specs.Reads.{driver_reads}
use Rattle.ranks.proofs.reading.wire_reads.Given as goal

abbrev pub invariant-loop-unit : goal.invariant-loop-unit
invariant-loop-unit l = l.reads.items ≡ flat_map (λ u. driver_reads (slice_get l.circuit.units u)) (take l.unit-index l.unit-items)
