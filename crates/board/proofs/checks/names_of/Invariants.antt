use Rattle.std.proofs.Common.{◌≡◌, ◌++◌, map, drop}
use Rattle.board.specs.NodeNames.{name_by}
use Rattle.board.proofs.checks.names_of.Given as goal

abbrev pub invariant-loop-node : goal.invariant-loop-node
invariant-loop-node l = l.names.items ++ map (name_by l.tables.net_names l.tables.register_pins) (drop l.node-index l.nodes) ≡ map (name_by l.tables.net_names l.tables.register_pins) l.nodes
