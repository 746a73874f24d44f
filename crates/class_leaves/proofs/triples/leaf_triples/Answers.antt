use Rattle.std.proofs.Common.{ℕ, ◌+◌, List, take, take_all, get_or, refl, sym, subst}
use Rattle.leaves.specs.declared.Leaf.{Leaf}
use Rattle.leaves.specs.declared.Range.TheVariants.{Bit}
use Rattle.reckoning.specs.declared.triples.Three.{Three}
use Rattle.class_leaves.specs.LeafTriples.{AreLeafTriples}
use Rattle.reckoning.proofs.Kept.{keeps_trans}
use Rattle.class_leaves.proofs.LeafLaws.{leaf-more}
use Rattle.class_leaves.proofs.triples.leaf_triples.Goals as goal

pub loop-leaf-preserved : goal.loop-leaf-preserved
loop-leaf-preserved c =
    let fs = c.args.leaves.now in
    let i = c.loop-leaf.leaf-index in
    record {
      keeps = keeps_trans c.args.graph.now c.loop-leaf.graph c.leaf_triple.new.graph c.loop-leaf.invariant.keeps c.in_ok-three.ensures.keeps;
      canonical = c.in_ok-three.ensures.canonical;
      made = subst (λ (ts : List Three). AreLeafTriples c.leaf_triple.new.graph (take (i + 1) fs) ts) (sym c.in_ok-push.ensures.items)
          (leaf-more c.loop-leaf.graph c.leaf_triple.new.graph fs i (get_or fs i (record { place = 0; range = Bit })) (record { place = 0; range = Bit }) c.loop-leaf.made.items c.in_ok-three.three c.loop-leaf-test.true refl
          c.in_ok-three.ensures.keeps c.loop-leaf.invariant.made c.in_ok-three.ensures.valid c.in_ok-three.ensures.says);
    }
