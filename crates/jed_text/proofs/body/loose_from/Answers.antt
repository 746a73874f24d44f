use Rattle.std.proofs.Common.{◌≡◌, ◌+◌, length, ap, sym, ◌∙◌, arith}
use Rattle.mig_base.specs.FuseText as spec
use Rattle.jed_text.proofs.FieldLemmas.{loose-next, pieces-none}
use Rattle.jed_text.proofs.body.loose_from.Goals as goal

pub loop-piece-preserved : goal.loop-piece-preserved
loop-piece-preserved c =
    let place = c.loop-piece.at in
    let piece = c.in-Some.piece.now in
    let after = c.in-Some.after.now in
    let rest = c.loop-piece.rest.now in
    let bound = c.loop-piece.invariant.0 in
    let lengths : length piece + 1 + length after ≡ length rest = c.in-Some.ensures.lengths in (
      omega arith,
      sym (loose-next place (place + (length piece + 1)) rest piece after c.in-Some.ensures.parts (omega arith)) ∙ c.loop-piece.invariant.1,
    )

pub returns : goal.returns
returns c =
    c.loose_in.ensures ∙ ap (spec.loose_from c.loop-piece.at) (sym (pieces-none c.loop-piece.rest.now c.in_default.ensures.parts)) ∙ c.loop-piece.invariant.1
