use Rattle.std.proofs.Common.{◌≡◌, ◌++◌, sym, subst, string_bytes}
use Rattle.std.specs.Prelude.{OnOk}
use Rattle.mig_base.specs.declared.cells.ChipError.{ChipError}
use Rattle.mig_base.specs.WrittenBoard.{written_line}
use Rattle.answers.specs.Reasons.{reason_words, chip_reason}
use Rattle.answers.proofs.texts.write_chip_error.Goals as goal

pub returns-in-Ac1InComplex : goal.returns-in-Ac1InComplex
returns-in-Ac1InComplex c = subst (λ (e : ChipError). OnOk c.writeln-in-Ac1InComplex.result (string_bytes c.writeln-in-Ac1InComplex.new.self ≡ string_bytes c.args.text.now ++ written_line (reason_words (chip_reason e))))
    (sym c.in-Ac1InComplex.is) c.writeln-in-Ac1InComplex.ensures.bytes
