use Rattle.std.proofs.Common.{◌∙◌, sym, ap, Result, Ok}
use Rattle.mig_base.specs.declared.cells.ChipCells.{ChipCells}
use Rattle.mig_base.specs.declared.cells.ChipError.{ChipError}
use Rattle.v22.proofs.ReadingLemmas.{cells-wrong, cells-right}
use Rattle.v22.proofs.cells.Goals as goal

abbrev made : ChipCells → Result ChipCells ChipError
made chip = Ok chip

pub returns-then-not-is_count : goal.returns-then-not-is_count
returns-then-not-is_count c =
    cells-wrong c.args.kind c.requires.kind c.args.fuses.now.bits c.items-bits.result.now c.items-bits.ensures (sym c.is_count.ensures ∙ c.if-not-is_count.true)

pub returns-in-Ok : goal.returns-in-Ok
returns-in-Ok c =
    cells-right c.args.kind c.requires.kind c.args.fuses.now.bits c.items-bits.result.now c.items-bits.ensures (sym c.is_count.ensures ∙ c.if-not-is_count.false)
    ∙ sym (ap made c.in-Ok.ensures)
