use Rattle.std.proofs.Common.{◌≡◌, ◌+◌, ◌≤◌, length}
use Rattle.text_lines.specs.Statements.{lines_behind}
use Rattle.text_lines.proofs.lines.first_counted.Given as goal

abbrev pub invariant-loop-rest : goal.invariant-loop-rest
invariant-loop-rest l = record { lines : lines_behind l.read l.rest ≡ lines_behind l.before l.bytes; room : l.read + length l.rest ≤ l.before + length l.bytes }

abbrev pub decreases-loop-rest : goal.decreases-loop-rest
decreases-loop-rest l = length l.rest
