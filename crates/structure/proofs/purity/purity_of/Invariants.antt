use Rattle.structure.specs.Sweeps.{IsAbove, size}
use Rattle.structure.proofs.purity.purity_of.Given as goal

abbrev pub invariant-loop : goal.invariant-loop
invariant-loop l = IsAbove l.circuit l.set

abbrev pub decreases-loop : goal.decreases-loop
decreases-loop l = size l.set
