use Rattle.std.proofs.Common.{◌≡◌, ◌≢◌, ◌*◌, ◌∙◌, sym, ap, map, List, length, Bool, Result, Ok, Err, ℕ}
use Rattle.mig_base.specs.declared.cells.Cell.{Cell}
use Rattle.mig_base.specs.declared.cells.ChipCells.{ChipCells}
use Rattle.mig_base.specs.declared.cells.ChipError.{ChipError}
use Rattle.mig_base.specs.declared.cells.ChipError.TheVariants.{Count}
use Rattle.mig_base.specs.declared.cells.Row.TheVariants as row
use Rattle.mig_base.specs.declared.kinds.Kind.{Kind}
use Rattle.mig_base.specs.declared.kinds.Mode.TheVariants.{Fixed}
use Rattle.mig_base.specs.DeviceTables.{array_width, cell_pins}
use Rattle.mig_base.specs.Cells.{pal_cells, pal_cell}
use Rattle.pal16.proofs.PalLemmas.{cells-right, cells-wrong}
use Rattle.pal16.proofs.pal_cells.Goals as goal

abbrev counted : ℕ → Result ChipCells ChipError
counted n = Err (Count n)

abbrev of_cells : Kind → List Cell → Result ChipCells ChipError
of_cells kind cells = Ok (record { kind = kind; mode = Fixed; cells = cells; reset = row.Never; preset = row.Never })

pub returns-then-bits-array_size : goal.returns-then-bits-array_size
returns-then-bits-array_size c =
    let bits = c.args.fuses.now.bits in
    let long : length c.items-bits.result.now ≡ length bits = ap length c.items-bits.ensures in
    let ne : length bits ≢ 64 * array_width c.args.kind = λ e. c.if-bits-array_size.true (long ∙ e ∙ sym c.array_size.ensures) in
    cells-wrong c.args.kind c.requires.kind bits ne ∙ ap counted (sym long)

pub returns-in-Ok : goal.returns-in-Ok
returns-in-Ok c =
    let kind = c.args.kind in
    let bits = c.args.fuses.now.bits in
    let same : c.items-bits.result.now ≡ bits = c.items-bits.ensures in
    let long : length c.items-bits.result.now ≡ length bits = ap length same in
    let e : length bits ≡ 64 * array_width kind = sym long ∙ c.if-bits-array_size.false ∙ c.array_size.ensures in
    let told : c.new.result ≡ (pal_cells kind bits).cells =
    c.new.ensures ∙ c.in-Ok.ensures ∙ ap (λ (bs : List Bool). map (pal_cell kind bs) (cell_pins kind)) same in
    cells-right kind c.requires.kind bits e
    ∙ ap (of_cells kind) (sym told)
