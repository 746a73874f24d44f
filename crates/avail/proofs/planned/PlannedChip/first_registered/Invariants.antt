use Rattle.std.proofs.Common.{◌≡◌, drop}
use Rattle.std.specs.Prelude.{filter}
use Rattle.new_board.specs.NewChip.{first_of, first_registered, is_registered_unit}
use Rattle.avail.proofs.planned.PlannedChip.first_registered.Given as goal

abbrev pub invariant-loop-unit : goal.invariant-loop-unit
invariant-loop-unit l = first_of (filter (is_registered_unit l.circuit) (drop l.unit-index l.self.units)) ≡ first_registered l.circuit l.self
