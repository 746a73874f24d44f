use Rattle.std.proofs.Common.{List, ◌≡◌, ◌∙◌, ◌+◌, ◌∷◌, ◌++◌, [], sym, subst, ap, arith, drop, take}
use Rattle.std.proofs.lemmas.Result.{err_from_is_err_and}
use Rattle.std.proofs.lemmas.List.{drop_more, take_more}
use Rattle.mig_base.specs.declared.cells.ChipCells.{ChipCells}
use Rattle.mig_base.specs.declared.nets.ChipLine.{ChipLine}
use Rattle.mig_base.specs.Given.{AreMade}
use Rattle.palmig_top.proofs.Chips.{ChipsSoFar, chips-step, chips-want, read-more}
use Rattle.palmig_top.proofs.loads.read_chips.Goals as goal

pub returns-in_err-add_chip-clause-step : goal.returns-in_err-add_chip-clause-step
returns-in_err-add_chip-clause-step g c =
    let p = err_from_is_err_and c.from_residual-in_err-add_chip.result c.from_residual-in_err-add_chip.ensures.1 in
    let at : drop c.loop-line.line-index c.args.lines.now ≡ c.line-item.result ∷ drop (c.loop-line.line-index + 1) c.args.lines.now =
    drop_more c.args.lines.now c.loop-line.line-index c.line-item.result (omega arith) ∙ ap (λ (x : ChipLine). x ∷ drop (c.loop-line.line-index + 1) c.args.lines.now) (sym c.line-item.is) in
    let begun = subst (λ (q : List ChipLine). ChipsSoFar (g.F.Files.held c.args.files.now) (g.F.Files.held c.loop-line.files) (g.F.Files.counts c.args.files.now) (g.F.Files.counts c.loop-line.files)
    c.args.stem.now c.args.lines.now q c.loop-line.chips.items) at c.loop-line.invariant.0 in
    let sofar = chips-step (g.F.Files.held c.args.files.now) (g.F.Files.held c.loop-line.files) (g.F.Files.held c.read_chip_of.new.files)
    (g.F.Files.counts c.args.files.now) (g.F.Files.counts c.loop-line.files) (g.F.Files.counts c.read_chip_of.new.files)
    c.args.stem.now c.args.lines.now (drop (c.loop-line.line-index + 1) c.args.lines.now) c.line-item.result c.loop-line.chips.items c.in_ok-cells.cells begun c.in_ok-cells.ensures.step in
    rw (p.1, p.2, c.in_err-add_chip.ensures) (chips-want (λ v. v.items) (g.F.Files.held c.args.files.now) (g.F.Files.held c.read_chip_of.new.files) (g.F.Files.counts c.args.files.now) (g.F.Files.counts c.read_chip_of.new.files)
    c.args.stem.now c.args.lines.now (drop (c.loop-line.line-index + 1) c.args.lines.now) (c.loop-line.chips.items ++ c.in_ok-cells.cells ∷ []) sofar)

pub loop-line-preserved : goal.loop-line-preserved
loop-line-preserved g c =
    let at : drop c.loop-line.line-index c.args.lines.now ≡ c.line-item.result ∷ drop (c.loop-line.line-index + 1) c.args.lines.now =
    drop_more c.args.lines.now c.loop-line.line-index c.line-item.result (omega arith) ∙ ap (λ (x : ChipLine). x ∷ drop (c.loop-line.line-index + 1) c.args.lines.now) (sym c.line-item.is) in
    let front : take (c.loop-line.line-index + 1) c.args.lines.now ≡ take c.loop-line.line-index c.args.lines.now ++ c.line-item.result ∷ [] =
    take_more c.args.lines.now c.loop-line.line-index c.line-item.result (omega arith) ∙ ap (λ (x : ChipLine). take c.loop-line.line-index c.args.lines.now ++ x ∷ []) (sym c.line-item.is) in
    let begun = subst (λ (q : List ChipLine). ChipsSoFar (g.F.Files.held c.args.files.now) (g.F.Files.held c.loop-line.files) (g.F.Files.counts c.args.files.now) (g.F.Files.counts c.loop-line.files)
    c.args.stem.now c.args.lines.now q c.loop-line.chips.items) at c.loop-line.invariant.0 in
    let sofar = chips-step (g.F.Files.held c.args.files.now) (g.F.Files.held c.loop-line.files) (g.F.Files.held c.read_chip_of.new.files)
    (g.F.Files.counts c.args.files.now) (g.F.Files.counts c.loop-line.files) (g.F.Files.counts c.read_chip_of.new.files)
    c.args.stem.now c.args.lines.now (drop (c.loop-line.line-index + 1) c.args.lines.now) c.line-item.result c.loop-line.chips.items c.in_ok-cells.cells begun c.in_ok-cells.ensures.step in
    let read = read-more (take c.loop-line.line-index c.args.lines.now) (drop (c.loop-line.line-index + 1) c.args.lines.now) c.line-item.result c.loop-line.chips.items c.in_ok-cells.cells c.loop-line.invariant.1 c.in_ok-cells.ensures.read in (
      subst (λ (made : List ChipCells). ChipsSoFar (g.F.Files.held c.args.files.now) (g.F.Files.held c.read_chip_of.new.files) (g.F.Files.counts c.args.files.now) (g.F.Files.counts c.read_chip_of.new.files)
          c.args.stem.now c.args.lines.now (drop (c.loop-line.line-index + 1) c.args.lines.now) made) (sym c.in_ok-add_chip.ensures) sofar,
      subst (λ (ls : List ChipLine). AreMade ls c.add_chip.new.chips.items) (sym front)
          (subst (λ (made : List ChipCells). AreMade (take c.loop-line.line-index c.args.lines.now ++ c.line-item.result ∷ []) made) (sym c.in_ok-add_chip.ensures) read),
    )
