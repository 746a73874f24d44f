use Rattle.std.proofs.Common.{◌≡◌, ◌+◌, ◌<◌, ◌^◌, length}
use Rattle.mig_base.specs.FuseText as spec
use Rattle.jed_text.proofs.body.loose_from.Given as goal

abbrev pub invariant-loop-piece : goal.invariant-loop-piece
invariant-loop-piece l =
    (l.at + length l.rest < 2 ^ 64)
    × (spec.loose_from l.at (spec.pieces l.rest) ≡ spec.loose_from l.start (spec.pieces l.text))

abbrev pub decreases-loop-piece : goal.decreases-loop-piece
decreases-loop-piece l = length l.rest
