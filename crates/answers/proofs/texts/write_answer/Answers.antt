use Rattle.std.proofs.Common.{◌≡◌, ◌++◌, sym, subst, codes, string_bytes}
use Rattle.std.specs.Prelude.{OnOk}
use Rattle.answers.specs.declared.exit.Exit.{Exit}
use Rattle.answers.specs.Reports.{answer_report}
use Rattle.answers.proofs.Lines.{file-line}
use Rattle.answers.proofs.texts.write_answer.Goals as goal

pub returns-in-Missing : goal.returns-in-Missing
returns-in-Missing c =
    let old = string_bytes c.args.text.now in
    let new = string_bytes c.writeln.new.self in
    subst (λ (e : Exit). OnOk c.writeln.result (new ≡ old ++ answer_report c.args.nets.now e)) (sym c.in-Missing.is)
    (file-line old new (codes "missing ") c.text.result.now c.in-Missing.file c.writeln.result c.text.ensures c.writeln.ensures.bytes)
