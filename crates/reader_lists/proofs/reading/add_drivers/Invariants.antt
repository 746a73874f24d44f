use Rattle.std.proofs.Common.{drop}
use Rattle.std.specs.Prelude.{slice_get}
use Rattle.std.specs.List.{flat_map}
use Rattle.mig_base.specs.Reads.{driver_reads}
use Rattle.reader_lists.specs.declared.readers.Readers.{Readers}
use Rattle.reader_lists.specs.Lists.{Adds}
use Rattle.reader_lists.proofs.reading.add_drivers.Given as goal

abbrev pub invariant-loop-unit : goal.invariant-loop-unit
invariant-loop-unit l =
    (new : Readers) → Adds l.readers l.reader (flat_map (λ u. driver_reads (slice_get l.circuit.units u)) (drop l.unit-index l.drivers)) new →
    Adds l.fn.readers l.reader (flat_map (λ u. driver_reads (slice_get l.circuit.units u)) l.drivers) new
