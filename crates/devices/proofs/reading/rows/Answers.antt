use Rattle.std.proofs.Common.{◌≡◌, ◌+◌, ◌-◌, ◌++◌, ◌∷◌, [], ◌∙◌, sym, ap, arith, rules, length, List, ℕ}
use Rattle.mig_base.specs.declared.cells.Row.{Row}
use Rattle.mig_base.specs.First.{made_from}
use Rattle.mig_base.specs.Cells.{row_at, row_of}
use Rattle.mig_base.proofs.ListLaws.{made_from-more}
use Rattle.devices.proofs.reading.rows.Goals as goal

pub loop-r-preserved : goal.loop-r-preserved
loop-r-preserved c =
    let columns = c.args.columns.now in
    let fuses = c.args.fuses.now in
    let f = λ (r : ℕ). row_of columns (row_at (length columns) fuses r) in
    let r = c.loop-r.r in
    let n = r - c.args.first in
    let more : r + 1 - c.args.first ≡ n + 1 = omega arith in
    let here : c.args.first + n ≡ r = omega arith in
    c.in_ok-push.ensures.items ∙ ap (λ (rows : List Row). rows ++ c.in_ok-array_row.field-0 ∷ []) c.loop-r.invariant
    ∙ ap (λ (row : Row). made_from f c.args.first n ++ row ∷ []) (search rules ∙ sym (ap f here))
    ∙ sym (made_from-more f c.args.first n (r + 1 - c.args.first) more)
