use Rattle.settle.proofs.DriveLaws.{Renewing}
use Rattle.settle.proofs.marked.renew_units.Given as goal

abbrev pub invariant-loop-unit : goal.invariant-loop-unit
invariant-loop-unit l = Renewing l.circuit l.fn.out l.unit l.marks l.out
