use Rattle.std.proofs.Common.{◌≡◌, ◌++◌, map, drop}
use Rattle.board.specs.NodeNames.{private_node}
use Rattle.board.proofs.names.push_private.Given as goal

abbrev pub invariant-loop-pin : goal.invariant-loop-pin
invariant-loop-pin l = l.names.items ++ map (private_node l.net) (drop l.pin-index l.pins) ≡ l.fn.names.items ++ map (private_node l.net) l.pins
