use Rattle.std.proofs.Common.{◌≡◌, take}
use Rattle.bdd.specs.Diagram.{point_of}
use Rattle.leaves.specs.Leaves.{leaf_levels}
use Rattle.class_leaves.proofs.triples.levels_at.Given as goal

abbrev pub invariant-loop-leaf : goal.invariant-loop-leaf
invariant-loop-leaf l = l.levels.items ≡ leaf_levels (point_of l.point) (take l.leaf-index l.leaves)
