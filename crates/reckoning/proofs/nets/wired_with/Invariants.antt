use Rattle.std.proofs.Common.{take, map}
use Rattle.std.specs.Prelude.{slice_get}
use Rattle.std.specs.List.{flat_map}
use Rattle.bdd.specs.Diagram.{IsCanonical, Keeps}
use Rattle.mig_base.specs.Levels.{resolve2}
use Rattle.mig_base.specs.Reads.{driver_reads}
use Rattle.settle.specs.Rules.{wired, drive_of}
use Rattle.reckoning.specs.Tables.{IsWiredOf}
use Rattle.reckoning.proofs.nets.wired_with.Given as goal

abbrev pub invariant-loop-unit : goal.invariant-loop-unit
invariant-loop-unit l = record {
  keeps : Keeps l.fn.graph l.graph;
  canonical : IsCanonical l.graph;
  wired : IsWiredOf l.fn.graph l.graph l.table l.fn.start (flat_map (λ u. driver_reads (slice_get l.circuit.units u)) (take l.unit-index l.drivers))
      (λ m x. resolve2 x (wired (map (drive_of l.circuit m) (take l.unit-index l.drivers)))) l.so_far;
}
