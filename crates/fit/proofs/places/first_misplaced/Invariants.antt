use Rattle.plan_lines.proofs.FirstSteps.{FromIndex}
use Rattle.fit.specs.RuleLists.{PlaceGives}
use Rattle.fit.proofs.places.first_misplaced.Given as goal

abbrev pub invariant-loop-unit : goal.invariant-loop-unit
invariant-loop-unit l = FromIndex (PlaceGives l.placed.board.now l.placed.plan.now l.rule) l.units l.unit-index
