use Rattle.std.proofs.Common.{◌≡◌, ◌++◌, drop}
use Rattle.mig_base.specs.Boards.{units_from}
use Rattle.equations.proofs.units.units_of.Given as goal

abbrev pub invariant-loop-chip : goal.invariant-loop-chip
invariant-loop-chip l = l.units.items ++ units_from l.chip (drop l.chip l.chips) ≡ units_from 0 l.chips
