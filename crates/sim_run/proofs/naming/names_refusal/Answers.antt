use Rattle.std.proofs.Common.{◌∙◌, sym, [], List, ℕ, Bor}
use Rattle.sim_run.specs.ScriptText.{name_refusal}
use Rattle.text_lines.proofs.Judging.{judged-more, judged-here, judged-all}
use Rattle.sim_run.proofs.naming.names_refusal.Goals as goal

pub loop-i-preserved : goal.loop-i-preserved
loop-i-preserved c =
    judged-more (λ (w : Bor (List ℕ)). w.now) (name_refusal c.args.ports.now c.args.n) c.args.names.now c.loop-i.i (record { ref_ptr = (0, 0); now = [] }) _ c.loop-i-test.true
    (sym c.name_refusal.ensures ∙ c.in_default.is) c.loop-i.invariant

pub returns-in-Some : goal.returns-in-Some
returns-in-Some c =
    sym (judged-here (λ (w : Bor (List ℕ)). w.now) (name_refusal c.args.ports.now c.args.n) c.args.names.now c.loop-i.i (record { ref_ptr = (0, 0); now = [] }) _ _ c.loop-i-test.true
    (sym c.name_refusal.ensures ∙ c.in-Some.is) c.loop-i.invariant)

pub returns : goal.returns
returns c = sym (judged-all (λ (w : Bor (List ℕ)). w.now) (name_refusal c.args.ports.now c.args.n) c.args.names.now c.loop-i.i _ c.loop-i-test.false c.loop-i.invariant)
