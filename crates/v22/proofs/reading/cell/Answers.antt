use Rattle.std.proofs.Common.{◌≡◌, ◌∙◌, true, false, not, sym, subst, IfOk}
use Rattle.mig_base.specs.declared.cells.Cell.{Cell}
use Rattle.mig_base.specs.Cells.{comb_cell, reg_cell_22, cell_22}
use Rattle.v22.proofs.ReadingLemmas.{cell-is}
use Rattle.v22.proofs.reading.cell.Goals as goal

pub returns-then-s1 : goal.returns-then-s1
returns-then-s1 c =
    let told : comb_cell c.args.pin (not c.s0-low.result) c.in_ok-rows.rows.items ≡ cell_22 c.args.kind c.args.fuses.now c.args.pin =
    cell-is c.args.kind c.args.fuses.now c.args.columns.now c.args.pin c.rows_of-place.result.first c.rows_of-place.result.terms c.in_ok-rows.rows.items c.s0-low.result true
    (record { are = c.requires.literals; wide = c.requires.width }) c.rows_of-place.ensures.first c.rows_of-place.ensures.terms c.in_ok-rows.ensures c.s0-low.ensures (sym c.if-s1.true ∙ c.s1.ensures) in
    subst (λ (x : Cell). IfOk c.combinational.result (λ (cell : Cell). cell ≡ x)) told c.combinational.ensures

pub returns-else-s1 : goal.returns-else-s1
returns-else-s1 c =
    let told : reg_cell_22 c.args.pin (not c.s0-low.result) c.in_ok-rows.rows.items ≡ cell_22 c.args.kind c.args.fuses.now c.args.pin =
    cell-is c.args.kind c.args.fuses.now c.args.columns.now c.args.pin c.rows_of-place.result.first c.rows_of-place.result.terms c.in_ok-rows.rows.items c.s0-low.result false
    (record { are = c.requires.literals; wide = c.requires.width }) c.rows_of-place.ensures.first c.rows_of-place.ensures.terms c.in_ok-rows.ensures c.s0-low.ensures (sym c.if-s1.false ∙ c.s1.ensures) in
    subst (λ (x : Cell). IfOk c.registered_by_row.result (λ (cell : Cell). cell ≡ x)) told c.registered_by_row.ensures
