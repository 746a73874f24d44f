use Rattle.std.proofs.Common.{ℕ, ◌≤◌, ◌+◌, List, Bool, subst, sym}
use Rattle.board.specs.Joined.{equations_of}
use Rattle.class_leaves.proofs.PureLaws.{AreFlags, flags-more}
use Rattle.class_leaves.proofs.counting.pures_of.Goals as goal

pub loop-register-preserved : goal.loop-register-preserved
loop-register-preserved c =
    subst (λ (ps : List Bool). AreFlags (equations_of c.args.board.now) (c.loop-register.register + 1) ps) (sym c.in_ok-push.ensures.items)
    (flags-more (equations_of c.args.board.now) c.loop-register.register c.loop-register.pures.items c.is_pure.result c.loop-register.invariant c.is_pure.ensures.yes c.is_pure.ensures.no)
