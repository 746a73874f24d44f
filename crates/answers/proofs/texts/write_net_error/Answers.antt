use Rattle.std.proofs.Common.{◌≡◌, ◌++◌, sym, subst, string_bytes}
use Rattle.std.specs.Prelude.{OnOk}
use Rattle.mig_base.specs.declared.nets.NetError.{NetError}
use Rattle.mig_base.specs.WrittenBoard.{written_line}
use Rattle.answers.specs.Reasons.{reason_words, net_reason}
use Rattle.answers.proofs.texts.write_net_error.Goals as goal

pub returns-in-KindUnknown : goal.returns-in-KindUnknown
returns-in-KindUnknown c = subst (λ (e : NetError). OnOk c.writeln-in-KindUnknown.result (string_bytes c.writeln-in-KindUnknown.new.self ≡ string_bytes c.args.text.now ++ written_line (reason_words (net_reason e))))
    (sym c.in-KindUnknown.is) c.writeln-in-KindUnknown.ensures.bytes

pub returns-in-ChipUnknown : goal.returns-in-ChipUnknown
returns-in-ChipUnknown c = subst (λ (e : NetError). OnOk c.writeln-in-ChipUnknown.result (string_bytes c.writeln-in-ChipUnknown.new.self ≡ string_bytes c.args.text.now ++ written_line (reason_words (net_reason e))))
    (sym c.in-ChipUnknown.is) c.writeln-in-ChipUnknown.ensures.bytes
