use Rattle.std.proofs.Common.{take}
use Rattle.ranks.specs.Graphs.{AddsReader}
use Rattle.ranks.proofs.graph.add_reader.Given as goal

abbrev pub invariant-loop-read : goal.invariant-loop-read
invariant-loop-read l = AddsReader l.fn.readers l.node (take l.read-index l.reads) l.readers
