use Rattle.std.proofs.Common.{◌≡◌, ◌++◌, map, drop}
use Rattle.structure.specs.Products.{var_by}
use Rattle.board.proofs.by_rank.variables_by_rank.Given as goal

abbrev pub invariant-loop-node : goal.invariant-loop-node
invariant-loop-node l = l.variables.items ++ map (var_by l.registers) (drop l.node-index l.nodes) ≡ map (var_by l.registers) l.nodes
