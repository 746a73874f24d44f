use Rattle.std.proofs.Common.{◌≡◌, map, take}
use Rattle.fit.specs.FullRows.{mark_of}
use Rattle.fit.proofs.marks.marks_of.Given as goal

abbrev pub invariant-loop-unit : goal.invariant-loop-unit
invariant-loop-unit l = l.units.items ≡ map (mark_of l.columns.nets.old.now l.columns.nets.chip.now) (take l.unit-index l.unit-items)
