use Rattle.std.proofs.Common.{◌≡◌, length, map, ap, ◌∙◌}
use Rattle.std.specs.Prelude.{replicate}
use Rattle.std.proofs.lemmas.List.{length-replicate}
use Rattle.mig_base.specs.FuseText.{statement_of}
use Rattle.jed_text.specs.Bodies.{fields_left, statements_of}
use Rattle.jed_text.specs.Marks.{unlisted}
use Rattle.jed_text.proofs.MarkLemmas.{marked_on, marked-start}
use Rattle.jed_text.proofs.marks.marks_of.Goals as goal

pub loop-field-init : goal.loop-field-init
loop-field-init c =
    let count = c.args.count in
    let marks : c.in-Ok.marks.items ≡ replicate count unlisted = c.in-Ok.ensures.items_if_clones_equal (λ y e. e) in (
      ap length marks ∙ length-replicate count unlisted,
      ap (λ ms. marked_on count ms (map statement_of (fields_left c.into_iter-field-iterator.result))) marks
          ∙ ap (λ it. marked_on count (replicate count unlisted) (map statement_of (fields_left it))) c.into_iter-field-iterator.ensures.into_iter_gives
          ∙ ap (λ fs. marked_on count (replicate count unlisted) (map statement_of fs)) c.fields-field-items.ensures
          ∙ marked-start count (statements_of c.args.body),
    )
