use Rattle.std.proofs.Common.{take}
use Rattle.bdd.specs.Diagram.{IsCanonical, Keeps}
use Rattle.class_leaves.specs.LeafTriples.{AreLeafTriples}
use Rattle.class_leaves.proofs.triples.leaf_triples.Given as goal

abbrev pub invariant-loop-leaf : goal.invariant-loop-leaf
invariant-loop-leaf l = record {
  keeps : Keeps l.fn.graph l.graph;
  canonical : IsCanonical l.graph;
  made : AreLeafTriples l.graph (take l.leaf-index l.leaves) l.made.items;
}
