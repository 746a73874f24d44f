use Rattle.std.proofs.Common.{◌≡◌, drop}
use Rattle.fit.specs.FullRows.{full_at}
use Rattle.fit.proofs.marks.is_full_at.Given as goal

abbrev pub invariant-loop-unit : goal.invariant-loop-unit
invariant-loop-unit l = full_at (drop l.unit-index l.units) l.pin ≡ full_at l.units l.pin
