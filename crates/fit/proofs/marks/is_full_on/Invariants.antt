use Rattle.std.proofs.Common.{◌≡◌, drop}
use Rattle.fit.specs.FullRows.{full_on}
use Rattle.fit.proofs.marks.is_full_on.Given as goal

abbrev pub invariant-loop-chip : goal.invariant-loop-chip
invariant-loop-chip l = full_on (drop l.chip-index l.chips) l.name l.pin ≡ full_on l.chips l.name l.pin
