use Rattle.std.proofs.Common.{take}
use Rattle.reader_lists.specs.Tables.{AddsNodes}
use Rattle.reader_lists.proofs.building.add_nodes.Given as goal

abbrev pub invariant-loop-node : goal.invariant-loop-node
invariant-loop-node l = AddsNodes l.circuit l.fn.readers (take l.node-index l.nodes) l.readers
