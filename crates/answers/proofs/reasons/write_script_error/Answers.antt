use Rattle.std.proofs.Common.{◌≡◌, ◌++◌, sym, subst, string_bytes}
use Rattle.std.specs.Prelude.{OnOk}
use Rattle.mig_base.specs.declared.scripts.ScriptError.{ScriptError}
use Rattle.mig_base.specs.WrittenBoard.{written_line}
use Rattle.answers.specs.Reasons.{reason_words, script_reason}
use Rattle.answers.proofs.reasons.write_script_error.Goals as goal

pub returns-in-PortUnknown : goal.returns-in-PortUnknown
returns-in-PortUnknown c =
    subst (λ (e : ScriptError). OnOk c.writeln-in-PortUnknown.result (string_bytes c.writeln-in-PortUnknown.new.self ≡ string_bytes c.args.text.now ++ written_line (reason_words (script_reason c.args.nets.now e))))
    (sym c.in-PortUnknown.is) c.writeln-in-PortUnknown.ensures.bytes
