use Rattle.std.proofs.Common.{ℕ, ◌≡◌, ◌≢◌, ◌+◌, ◌∙◌, length, sym, ap, subst, Result, Err, Some, None}
use Rattle.mig_base.specs.declared.cells.ChipCells.{ChipCells}
use Rattle.mig_base.specs.declared.cells.ChipError.{ChipError}
use Rattle.mig_base.specs.declared.cells.ChipError.TheVariants.{Count}
use Rattle.mig_base.specs.Cells.{array_size, AnswersCells}
use Rattle.v8.proofs.ReadingLemmas.{cells-wrong, cells-right}
use Rattle.v8.proofs.cells.Goals as goal

abbrev counted : ℕ → Result ChipCells ChipError
counted n = Err (Count n)

pub returns-then-bits-fuse_count : goal.returns-then-bits-fuse_count
returns-then-bits-fuse_count c =
    let bits = c.args.fuses.now.bits in
    let long : length c.items-bits.result.now ≡ length bits = ap length c.items-bits.ensures in
    let ne : length bits ≢ array_size c.args.kind + 146 = λ e. c.if-bits-fuse_count.true (long ∙ e ∙ sym c.fuse_count.ensures) in
    cells-wrong c.args.kind c.requires.kind bits ne ∙ ap counted (sym long)

pub returns-in-Some : goal.returns-in-Some
returns-in-Some c =
    subst (AnswersCells c.cells_in.result)
    (sym (cells-right c.args.kind c.requires.kind c.args.fuses.now.bits c.items-bits.result.now (Some c.in-Some.mode) c.items-bits.ensures (c.if-bits-fuse_count.false ∙ c.fuse_count.ensures) (sym c.mode_of.ensures ∙ c.in-Some.is)))
    c.cells_in.ensures

pub returns-in-None : goal.returns-in-None
returns-in-None c =
    cells-right c.args.kind c.requires.kind c.args.fuses.now.bits c.items-bits.result.now None c.items-bits.ensures (c.if-bits-fuse_count.false ∙ c.fuse_count.ensures) (sym c.mode_of.ensures ∙ c.in-None.is)
