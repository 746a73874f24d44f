use Rattle.std.proofs.Common.{ℕ, List, [], ◌∷◌, ◌≡◌, ◌++◌, ◌∙◌, ap, sym, subst, codes, string_bytes}
use Rattle.std.specs.Prelude.{OnOk}
use Rattle.mig_base.specs.WrittenBoard.{written_line}
use Rattle.answers.specs.declared.exit.Refusal.{Refusal}
use Rattle.answers.specs.Reasons.{jed_reason, net_reason}
use Rattle.answers.specs.Reports.{refusal_words}
use Rattle.answers.proofs.Lines.{refused-line}
use Rattle.answers.proofs.texts.write_refusal.Goals as goal

pub returns-in_ok-write-in-Jed : goal.returns-in_ok-write-in-Jed
returns-in_ok-write-in-Jed c =
    let old = string_bytes c.args.text.now in
    let new = string_bytes c.write_jed_error.new.text in
    subst (λ (r : Refusal). OnOk c.write_jed_error.result (new ≡ old ++ written_line (refusal_words c.args.nets.now r))) (sym c.in-Jed.is)
    (refused-line old (string_bytes c.write.new.self) new (codes "refused jed ") c.in-Jed.file (jed_reason c.in-Jed.error) c.write_jed_error.result
    (c.in_ok-write-in-Jed.ensures.bytes ∙ ap (λ (f : List ℕ). old ++ (codes "refused jed " ++ (f ++ 32 ∷ []))) c.text-in-Jed.ensures) c.write_jed_error.ensures)

pub returns-in_ok-write-in-Net : goal.returns-in_ok-write-in-Net
returns-in_ok-write-in-Net c =
    let old = string_bytes c.args.text.now in
    let new = string_bytes c.write_net_error.new.text in
    subst (λ (r : Refusal). OnOk c.write_net_error.result (new ≡ old ++ written_line (refusal_words c.args.nets.now r))) (sym c.in-Net.is)
    (refused-line old (string_bytes c.write-in-Net.new.self) new (codes "refused net ") c.in-Net.file (net_reason c.in-Net.error) c.write_net_error.result
    (c.in_ok-write-in-Net.ensures.bytes ∙ ap (λ (f : List ℕ). old ++ (codes "refused net " ++ (f ++ 32 ∷ []))) c.text-in-Net.ensures) c.write_net_error.ensures)
