use Rattle.std.proofs.Common.{◌≡◌, ◌++◌, sym, subst, string_bytes}
use Rattle.std.specs.Prelude.{OnOk}
use Rattle.mig_base.specs.declared.plans.PlanError.{PlanError}
use Rattle.mig_base.specs.WrittenBoard.{written_line}
use Rattle.answers.specs.Reasons.{reason_words, plan_reason}
use Rattle.answers.proofs.reasons.write_plan_error.Goals as goal

pub returns-in-KindUnknown : goal.returns-in-KindUnknown
returns-in-KindUnknown c =
    subst (λ (e : PlanError). OnOk c.writeln-in-KindUnknown.result (string_bytes c.writeln-in-KindUnknown.new.self ≡ string_bytes c.args.text.now ++ written_line (reason_words (plan_reason e))))
    (sym c.in-KindUnknown.is) c.writeln-in-KindUnknown.ensures.bytes
