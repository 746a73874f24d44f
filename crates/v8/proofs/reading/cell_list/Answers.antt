use Rattle.std.proofs.Common.{ℕ, ◌≡◌, ◌≤◌, ◌+◌, ◌-◌, ◌++◌, ◌∷◌, [], ◌∙◌, List, map, sym, ap, arith}
use Rattle.mig_base.specs.declared.cells.Cell.{Cell}
use Rattle.mig_base.specs.First.{made_from}
use Rattle.mig_base.specs.DeviceTables.{top_pin}
use Rattle.mig_base.specs.Cells.{v8_cell}
use Rattle.devices.proofs.MacrocellLaws.{v8-table}
use Rattle.devices.proofs.RowLemmas.{map-made_from-more}
use Rattle.v8.proofs.reading.cell_list.Goals as goal

pub loop-pin-preserved : goal.loop-pin-preserved
loop-pin-preserved c =
    let f = v8_cell c.args.kind c.args.mode c.args.fuses.now in
    let low = c.top_pin-top.result - 7 in
    let pin = c.loop-pin.pin in
    let n = pin - low in
    let more : pin + 1 - low ≡ n + 1 = omega arith in
    let here : pin ≡ low + n = omega arith in
    c.in_ok-push.ensures.items ∙ ap (λ (cells : List Cell). cells ++ c.in_ok-cell.field-0 ∷ []) c.loop-pin.invariant
    ∙ ap (λ (cell : Cell). map f (made_from (λ (p : ℕ). p) low n) ++ cell ∷ []) (c.in_ok-cell.ensures ∙ ap f here)
    ∙ sym (map-made_from-more f low n (pin + 1 - low) more)

pub returns : goal.returns
returns c =
    let f = v8_cell c.args.kind c.args.mode c.args.fuses.now in
    let t = v8-table c.args.kind c.requires.kind in
    let top : c.top_pin-top.result ≡ top_pin c.args.kind = c.top_pin-top.ensures in
    let low : c.top_pin-top.result - 7 ≡ top_pin c.args.kind - 7 = ap (λ (n : ℕ). n - 7) top in
    let room : 7 ≤ top_pin c.args.kind = t.high in
    let all : c.loop-pin.pin - (c.top_pin-top.result - 7) ≡ 8 = omega arith in
    c.loop-pin.invariant ∙ ap (λ (n : ℕ). map f (made_from (λ (p : ℕ). p) (c.top_pin-top.result - 7) n)) all
    ∙ ap (λ (n : ℕ). map f (made_from (λ (p : ℕ). p) n 8)) low ∙ ap (map f) (sym t.pins)
