use Rattle.std.proofs.Common.{◌≡◌, map, take}
use Rattle.avail.specs.Needs.{bare_unit}
use Rattle.avail.proofs.needs.bare_chip.Given as goal

abbrev pub invariant-loop-unit : goal.invariant-loop-unit
invariant-loop-unit l = l.units.items ≡ map bare_unit (take l.unit-index l.unit-items)
