use Rattle.reader_lists.specs.Tables.{AddsUnits}
use Rattle.reader_lists.proofs.building.add_units.Given as goal

abbrev pub invariant-loop-unit : goal.invariant-loop-unit
invariant-loop-unit l = AddsUnits l.circuit l.fn.readers l.unit l.readers
