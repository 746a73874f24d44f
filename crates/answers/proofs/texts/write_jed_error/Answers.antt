use Rattle.std.proofs.Common.{◌≡◌, ◌++◌, sym, subst, string_bytes}
use Rattle.std.specs.Prelude.{OnOk}
use Rattle.mig_base.specs.declared.jedec.JedError.{JedError}
use Rattle.mig_base.specs.WrittenBoard.{written_line}
use Rattle.answers.specs.Reasons.{reason_words, jed_reason}
use Rattle.answers.proofs.texts.write_jed_error.Goals as goal

pub returns-in-CountTwice : goal.returns-in-CountTwice
returns-in-CountTwice c = subst (λ (e : JedError). OnOk c.writeln-in-CountTwice.result (string_bytes c.writeln-in-CountTwice.new.self ≡ string_bytes c.args.text.now ++ written_line (reason_words (jed_reason e))))
    (sym c.in-CountTwice.is) c.writeln-in-CountTwice.ensures.bytes

pub returns-in-DefaultTwice : goal.returns-in-DefaultTwice
returns-in-DefaultTwice c = subst (λ (e : JedError). OnOk c.writeln-in-DefaultTwice.result (string_bytes c.writeln-in-DefaultTwice.new.self ≡ string_bytes c.args.text.now ++ written_line (reason_words (jed_reason e))))
    (sym c.in-DefaultTwice.is) c.writeln-in-DefaultTwice.ensures.bytes
