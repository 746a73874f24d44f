use Rattle.std.proofs.Common.{take}
use Rattle.plans.specs.FirstOf.{AreEach}
use Rattle.fit.specs.Parts.{AreParts}
use Rattle.fit.proofs.parts.reckon_units.Given as goal

abbrev pub invariant-loop-unit : goal.invariant-loop-unit
invariant-loop-unit l = AreEach (AreParts l.absorbed.board.now l.absorbed.units.now) (take l.unit-index l.units) l.all.items
