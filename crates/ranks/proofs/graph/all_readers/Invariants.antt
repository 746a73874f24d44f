use Rattle.std.proofs.Common.{take}
use Rattle.ranks.specs.Graphs.{ReadBy}
use Rattle.ranks.proofs.graph.all_readers.Given as goal

abbrev pub invariant-loop-node : goal.invariant-loop-node
invariant-loop-node l = ReadBy l.circuit (take l.node-index l.nodes) l.readers
