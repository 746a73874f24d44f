use Rattle.std.proofs.Common.{take}
use Rattle.joiner.specs.AbsorbedNets.{AreListed}
use Rattle.joiner.proofs.absorbed.listed_units.Given as goal

abbrev pub invariant-loop-unit : goal.invariant-loop-unit
invariant-loop-unit l = AreListed l.units (take l.unit-index l.absorbed) l.flags
