use Rattle.std.proofs.Common.{◌≡◌, ◌≤◌, ◌+◌, drop, length}
use Rattle.mig_base.specs.FuseText as spec
use Rattle.jed_text.specs.Marks.{marked}
use Rattle.jed_text.proofs.marks.mark_digits.Given as goal

abbrev pub invariant-loop-digit : goal.invariant-loop-digit
invariant-loop-digit l =
    (marked l.marks l.fuse (spec.states_of (drop l.digit-index l.digits)) ≡ marked l.initial.marks l.first (spec.states_of l.digits))
    × (l.fuse + length (spec.states_of (drop l.digit-index l.digits)) ≤ length l.marks)
