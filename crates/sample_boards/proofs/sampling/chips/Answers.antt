use Rattle.std.proofs.Common.{◌≡◌, ◌+◌, ◌++◌, ◌∷◌, [], List, take, length, sym, ap, subst, ◌∙◌, arith}
use Rattle.std.proofs.lemmas.List.{take_more}
use Rattle.mig_base.specs.declared.cells.ChipCells.{ChipCells}
use Rattle.mig_base.specs.declared.nets.ChipLine.{ChipLine}
use Rattle.mig_base.specs.Given.{AreMade}
use Rattle.board.proofs.GivenLaws.{made-more}
use Rattle.sample_boards.proofs.sampling.chips.Goals as goal

pub loop-place-preserved : goal.loop-place-preserved
loop-place-preserved c =
    let lines = c.args.lines.now in
    let i = c.loop-place.place in
    let line = c.index-lines-place.result in
    let front : take (i + 1) lines ≡ take i lines ++ line ∷ [] = take_more lines i line (omega arith) ∙ ap (λ (x : ChipLine). take i lines ++ x ∷ []) (sym c.index-lines-place.is) in
    let more = made-more (take i lines) line c.loop-place.made.items c.in_ok-cells.cells c.loop-place.invariant c.in_ok-cells.ensures in
    subst (λ (made : List ChipCells). AreMade (take (i + 1) lines) made) (sym c.in_ok-push.ensures.items) (subst (λ (ls : List ChipLine). AreMade ls (c.loop-place.made.items ++ c.in_ok-cells.cells ∷ [])) (sym front) more)
