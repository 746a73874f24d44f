use Rattle.plans.specs.FirstOf.{Says}
use Rattle.plan_lines.proofs.FirstSteps.{FromIndex}
use Rattle.fit.specs.FullRows.{full_row}
use Rattle.fit.proofs.marks.first_full_row.Given as goal

abbrev pub invariant-loop-unit : goal.invariant-loop-unit
invariant-loop-unit l = FromIndex (Says (full_row l.chips)) l.placed l.unit-index
