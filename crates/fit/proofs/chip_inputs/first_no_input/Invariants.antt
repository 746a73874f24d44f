use Rattle.plans.specs.FirstOf.{Says}
use Rattle.plan_lines.proofs.FirstSteps.{FromIndex}
use Rattle.fit.specs.NewChips.{no_input}
use Rattle.fit.proofs.chip_inputs.first_no_input.Given as goal

abbrev pub invariant-loop-chip : goal.invariant-loop-chip
invariant-loop-chip l = FromIndex (Says (no_input l.board)) l.chips l.chip-index
