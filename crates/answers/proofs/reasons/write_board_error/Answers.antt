use Rattle.std.proofs.Common.{◌≡◌, ◌++◌, sym, subst, codes, string_bytes}
use Rattle.std.specs.Prelude.{OnOk}
use Rattle.mig_base.specs.declared.nets.BoardError.{BoardError}
use Rattle.mig_base.specs.WrittenBoard.{written_line}
use Rattle.answers.specs.Reasons.{reason_words, board_reason}
use Rattle.answers.proofs.Lines.{file-line}
use Rattle.answers.proofs.reasons.write_board_error.Goals as goal

pub returns-in-DerivedClock : goal.returns-in-DerivedClock
returns-in-DerivedClock c =
    let old = string_bytes c.args.text.now in
    let new = string_bytes c.writeln.new.self in
    subst (λ (e : BoardError). OnOk c.writeln.result (new ≡ old ++ written_line (reason_words (board_reason e)))) (sym c.in-DerivedClock.is)
    (file-line old new (codes "DerivedClock ") c.text.result.now c.in-DerivedClock.chip c.writeln.result c.text.ensures c.writeln.ensures.bytes)
