use Rattle.class_leaves.proofs.PureLaws.{AreMarked}
use Rattle.class_leaves.proofs.counting.pure_classes.Given as goal

abbrev pub invariant-loop-i : goal.invariant-loop-i
invariant-loop-i l = AreMarked l.pures l.classes l.i l.bits.items
