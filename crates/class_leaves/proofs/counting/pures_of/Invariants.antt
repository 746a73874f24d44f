use Rattle.board.specs.Joined.{equations_of}
use Rattle.class_leaves.proofs.PureLaws.{AreFlags}
use Rattle.class_leaves.proofs.counting.pures_of.Given as goal

abbrev pub invariant-loop-register : goal.invariant-loop-register
invariant-loop-register l = AreFlags (equations_of l.board) l.register l.pures.items
