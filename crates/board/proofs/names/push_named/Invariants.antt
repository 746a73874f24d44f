use Rattle.std.proofs.Common.{◌≡◌, ◌++◌, map, drop}
use Rattle.board.specs.NodeNames.{line_node}
use Rattle.board.proofs.names.push_named.Given as goal

abbrev pub invariant-loop-line : goal.invariant-loop-line
invariant-loop-line l = l.names.items ++ map line_node (drop l.line-index l.lines) ≡ l.fn.names.items ++ map line_node l.lines
