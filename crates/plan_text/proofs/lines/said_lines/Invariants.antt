use Rattle.std.proofs.Common.{◌≡◌, ◌++◌, map, length}
use Rattle.plan_text.specs.PlanText.{said_line, said_lines}
use Rattle.plan_text.proofs.lines.said_lines.Given as goal

abbrev pub invariant-loop-line : goal.invariant-loop-line
invariant-loop-line l = l.lines.items ++ map said_line l.left ≡ said_lines l.bytes

abbrev pub decreases-loop-line : goal.decreases-loop-line
decreases-loop-line l = length l.left
