use Rattle.plan_lines.specs.Statements.{LineGives}
use Rattle.plan_lines.proofs.FirstSteps.{FromBehind}
use Rattle.plan_lines.proofs.lines.first_line.Given as goal

abbrev pub invariant-loop-i : goal.invariant-loop-i
invariant-loop-i l = FromBehind (LineGives l.board l.plan l.rule) l.plan.lines l.i
