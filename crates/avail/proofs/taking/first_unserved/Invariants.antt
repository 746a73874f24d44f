use Rattle.std.proofs.Common.{◌≡◌, drop}
use Rattle.avail.specs.ServedVariables.{first_unserved_by}
use Rattle.avail.proofs.taking.first_unserved.Given as goal

abbrev pub invariant-loop-variable : goal.invariant-loop-variable
invariant-loop-variable l = first_unserved_by l.nets.old.now l.nets.chip.now l.taken (drop l.variable-index l.needed) ≡ first_unserved_by l.nets.old.now l.nets.chip.now l.taken l.needed
