use Rattle.std.proofs.Common.{take}
use Rattle.joiner.specs.Marked.{ArePaired}
use Rattle.joiner.proofs.cone.with_purity.Given as goal

abbrev pub invariant-loop-variable : goal.invariant-loop-variable
invariant-loop-variable l = ArePaired l.board (take l.variable-index l.variables) l.pairs.items
