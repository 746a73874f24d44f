use Rattle.std.proofs.Common.{◌≡◌, ◌++◌, map, length}
use Rattle.mig_base.specs.BoardText.{said_line, said_lines}
use Rattle.net_text.specs.Statements.{line_of}
use Rattle.net_text.proofs.lines.said_lines.Given as goal

abbrev pub invariant-loop-line : goal.invariant-loop-line
invariant-loop-line l = map line_of l.lines.items ++ map said_line l.left ≡ said_lines l.bytes

abbrev pub decreases-loop-line : goal.decreases-loop-line
decreases-loop-line l = length l.left
