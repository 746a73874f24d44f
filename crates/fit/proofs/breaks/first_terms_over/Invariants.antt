use Rattle.plan_lines.proofs.FirstSteps.{FromIndex}
use Rattle.plans.specs.Placings.{absorbed_units}
use Rattle.plans.specs.UnitBreaches.{GivesTermsOver}
use Rattle.fit.proofs.breaks.first_terms_over.Given as goal

abbrev pub invariant-loop-i : goal.invariant-loop-i
invariant-loop-i l = FromIndex (GivesTermsOver l.reckoned.placed.now.board.now (absorbed_units l.reckoned.placed.now.board.now l.reckoned.placed.now.plan.now)) l.units l.i
