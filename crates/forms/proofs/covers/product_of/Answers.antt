use Rattle.std.proofs.Common.{false}
use Rattle.forms.specs.Cones.{literal_in}
use Rattle.forms.proofs.CoverLaws.{pushed-option}
use Rattle.forms.proofs.covers.product_of.Goals as goal

pub loop-place-preserved : goal.loop-place-preserved
loop-place-preserved c =
    pushed-option (literal_in c.args.table.now) c.args.term.now c.loop-place.place-index (0, false) _ _ _ c.loop-place-test.true c.literal_at.ensures c.in_ok-push_literal.ensures c.loop-place.invariant
