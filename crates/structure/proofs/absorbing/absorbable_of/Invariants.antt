use Rattle.structure.proofs.Absorbings.{AreFound}
use Rattle.structure.proofs.absorbing.absorbable_of.Given as goal

abbrev pub invariant-loop-net : goal.invariant-loop-net
invariant-loop-net l = AreFound l.circuit l.absorbable l.net
