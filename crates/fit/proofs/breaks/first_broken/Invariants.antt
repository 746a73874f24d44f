use Rattle.plan_lines.proofs.FirstSteps.{FromIndex}
use Rattle.fit.specs.RuleLists.{PartGives}
use Rattle.fit.proofs.breaks.first_broken.Given as goal

abbrev pub invariant-loop-i : goal.invariant-loop-i
invariant-loop-i l = FromIndex (PartGives l.reckoned.placed.now.board.now l.reckoned.placed.now.plan.now l.rule) l.units l.i
