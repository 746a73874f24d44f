use Rattle.std.proofs.Common.{◌≡◌, ◌++◌, sym, subst, string_bytes}
use Rattle.std.specs.Prelude.{OnOk}
use Rattle.std.specs.Option.{option_map}
use Rattle.mig_base.specs.declared.plans.Breach.{Breach}
use Rattle.mig_base.specs.WrittenBoard.{written_line}
use Rattle.answers.specs.Reasons.{reason_words}
use Rattle.answers.specs.BreachLines.{breach_reason}
use Rattle.answers.proofs.breaches.write_breach.Goals as goal

pub returns-in-NotAbsorbable : goal.returns-in-NotAbsorbable
returns-in-NotAbsorbable c =
    subst (λ (e : Breach). OnOk c.write_unit-in-NotAbsorbable.result (string_bytes c.write_unit-in-NotAbsorbable.new.text ≡ string_bytes c.args.text.now ++ written_line (reason_words (breach_reason (option_map (λ n. n.now) c.args.node) e))))
    (sym c.in-NotAbsorbable.is) c.write_unit-in-NotAbsorbable.ensures
