use Rattle.class_leaves.proofs.PlaceLaws.{ClassesSoFar}
use Rattle.class_leaves.proofs.counting.register_leaves.Given as goal

abbrev pub invariant-loop-class : goal.invariant-loop-class
invariant-loop-class l = ClassesSoFar l.bits l.classes l.class-index l.place l.leaves.items
