use Rattle.plans.specs.LineBreaches.{GivesUnplaced}
use Rattle.plans.specs.Placings.{numbered_units}
use Rattle.plan_lines.proofs.FirstSteps.{FromIndex}
use Rattle.plan_lines.proofs.units.first_unplaced.Given as goal

abbrev pub invariant-loop-number : goal.invariant-loop-number
invariant-loop-number l = FromIndex (GivesUnplaced l.board l.plan) (numbered_units l.board) l.number
