use Rattle.std.proofs.Common.{◌≡◌, ◌∙◌, List, map, length, ap}
use Rattle.mig_base.specs.declared.kinds.Kind.{Kind}
use Rattle.mig_base.specs.declared.kinds.Mode.TheVariants.{Fixed}
use Rattle.mig_base.specs.declared.cells.Lit.{Lit}
use Rattle.mig_base.specs.declared.cells.Row.{Row}
use Rattle.mig_base.specs.declared.cells.Cell.{Cell}
use Rattle.mig_base.specs.declared.cells.ChipCells.{ChipCells}
use Rattle.mig_base.specs.DeviceTables.{cell_pins}
use Rattle.mig_base.specs.Cells.{cell_22, row_22, row_of, row_at}
use Rattle.v22.proofs.ReadingLemmas.{AreColumns, row-is}
use Rattle.v22.proofs.reading.chip.Goals as goal

abbrev chip_of : Kind → List Cell → Row → Row → ChipCells
chip_of k cs reset preset = record { kind = k; mode = Fixed; cells = cs; reset = reset; preset = preset }

pub returns : goal.returns
returns c =
    let k = c.args.kind in
    let bits = c.args.fuses.now in
    let h : AreColumns k bits c.in_ok-columns.columns.items = record { are = c.in_ok-columns.ensures.literals; wide = c.in_ok-columns.ensures.width } in
    let cells : c.new.result ≡ map (cell_22 k bits) (cell_pins k) = c.new.ensures ∙ c.in_ok-cells.ensures in
    let reset : c.in_ok-reset.reset ≡ row_22 k bits 0 =
    c.in_ok-reset.ensures ∙ ap (λ (lits : List Lit). row_of lits (row_at (length lits) bits 0)) c.deref-2.ensures.value ∙ row-is k bits c.in_ok-columns.columns.items 0 h in
    let preset : c.in_ok-preset.preset ≡ row_22 k bits 131 =
    c.in_ok-preset.ensures ∙ ap (λ (lits : List Lit). row_of lits (row_at (length lits) bits 131)) c.deref-3.ensures.value ∙ row-is k bits c.in_ok-columns.columns.items 131 h in
    ap (λ (cs : List Cell). chip_of k cs c.in_ok-reset.reset c.in_ok-preset.preset) cells
    ∙ ap (λ (r : Row). chip_of k (map (cell_22 k bits) (cell_pins k)) r c.in_ok-preset.preset) reset
    ∙ ap (chip_of k (map (cell_22 k bits) (cell_pins k)) (row_22 k bits 0)) preset
