use Rattle.std.proofs.Common.{ℕ, ◌≡◌, ◌+◌, ◌-◌, ◌++◌, ◌∷◌, [], ◌∙◌, List, map, sym, ap, arith}
use Rattle.mig_base.specs.declared.cells.Cell.{Cell}
use Rattle.mig_base.specs.First.{made_from}
use Rattle.mig_base.specs.Cells.{cell_22}
use Rattle.devices.proofs.RowLemmas.{map-made_from-more}
use Rattle.devices.proofs.V22Tables.{v22-table}
use Rattle.v22.proofs.reading.cell_list.Goals as goal

pub loop-pin-preserved : goal.loop-pin-preserved
loop-pin-preserved c =
    let f = cell_22 c.args.kind c.args.fuses.now in
    let pin = c.loop-pin.pin in
    let n = pin - 14 in
    let more : pin + 1 - 14 ≡ n + 1 = omega arith in
    let here : pin ≡ 14 + n = omega arith in
    c.in_ok-push.ensures.items ∙ ap (λ (cells : List Cell). cells ++ c.in_ok-cell.field-0 ∷ []) c.loop-pin.invariant
    ∙ ap (λ (cell : Cell). map f (made_from (λ (p : ℕ). p) 14 n) ++ cell ∷ []) (c.in_ok-cell.ensures ∙ ap f here)
    ∙ sym (map-made_from-more f 14 n (pin + 1 - 14) more)

pub returns : goal.returns
returns c =
    let f = cell_22 c.args.kind c.args.fuses.now in
    let all : c.loop-pin.pin - 14 ≡ 10 = omega arith in
    c.loop-pin.invariant ∙ ap (λ (n : ℕ). map f (made_from (λ (p : ℕ). p) 14 n)) all ∙ ap (map f) (sym (v22-table c.args.kind c.requires.kind).pins)
