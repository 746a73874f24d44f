use Rattle.std.proofs.Common.{◌≡◌, drop}
use Rattle.new_board.specs.NewChip.{unit_on}
use Rattle.avail.proofs.planned.unit_among.Given as goal

abbrev pub invariant-loop-unit : goal.invariant-loop-unit
invariant-loop-unit l = unit_on (drop l.unit-index l.units) l.pin ≡ unit_on l.units l.pin
