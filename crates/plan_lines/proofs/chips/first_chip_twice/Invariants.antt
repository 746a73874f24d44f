use Rattle.plans.specs.FirstOf.{Says}
use Rattle.plans.specs.LineBreaches.{chip_twice}
use Rattle.plan_lines.proofs.FirstSteps.{FromBehind}
use Rattle.plan_lines.proofs.chips.first_chip_twice.Given as goal

abbrev pub invariant-loop-i : goal.invariant-loop-i
invariant-loop-i l = FromBehind (Says chip_twice) l.chips l.i
