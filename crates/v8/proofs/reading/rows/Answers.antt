use Rattle.std.proofs.Common.{ℕ, ◌≡◌, ◌+◌, ◌-◌, ◌*◌, ◌++◌, ◌∷◌, [], ◌∙◌, List, sym, ap, arith}
use Rattle.mig_base.specs.declared.cells.Row.{Row}
use Rattle.mig_base.specs.First.{made_from}
use Rattle.mig_base.specs.DeviceTables.{top_pin}
use Rattle.mig_base.proofs.ListLaws.{made_from-more}
use Rattle.v8.specs.DisabledRows.{row_over}
use Rattle.v8.proofs.reading.rows.Goals as goal

pub loop-r-preserved : goal.loop-r-preserved
loop-r-preserved c =
    let f = row_over c.args.kind c.args.columns.now c.args.fuses.now in
    let first = 8 * (c.top_pin.result - c.args.pin) in
    let r = c.loop-r.r in
    let n = r - first in
    let more : r + 1 - first ≡ n + 1 = omega arith in
    let here : r ≡ first + n = omega arith in
    c.in_ok-push.ensures.items ∙ ap (λ (rows : List Row). rows ++ c.in_ok-row.field-0 ∷ []) c.loop-r.invariant
    ∙ ap (λ (row : Row). made_from f first n ++ row ∷ []) (c.in_ok-row.ensures ∙ ap f here)
    ∙ sym (made_from-more f first n (r + 1 - first) more)

pub returns : goal.returns
returns c =
    let f = row_over c.args.kind c.args.columns.now c.args.fuses.now in
    let first = 8 * (c.top_pin.result - c.args.pin) in
    let all : c.loop-r.r - first ≡ 8 = omega arith in
    let start : first ≡ 8 * (top_pin c.args.kind - c.args.pin) = ap (λ (t : ℕ). 8 * (t - c.args.pin)) c.top_pin.ensures in
    c.loop-r.invariant ∙ ap (made_from f first) all ∙ ap (λ (n : ℕ). made_from f n 8) start
