use Rattle.std.proofs.Common.{◌≡◌, ◌∙◌, ap, sym, arith, length, ℕ, Bool, cond, [], ◌∷◌, ◌++◌}
use Rattle.std.specs.Prelude.{is_none}
use Rattle.sim_run.specs.Statements.{after_steps}
use Rattle.text_lines.specs.Statements.{text_line}
use Rattle.sim_run.proofs.StepsRead.{read-more, read-ended}
use Rattle.sim_run.proofs.reading.read_steps.Goals as goal

pub loop-line-preserved : goal.loop-line-preserved
loop-line-preserved c =
    let count : c.len.result ≡ length c.loop-line.steps.items = omega (arith, c.len.ensures, c.loop-line.steps.ok.0) in
    read-more c.args.slots.now c.args.lines (text_line c.in-Some.line) c.loop-line.lines c.next_line.new.self c.loop-line.steps.items c.push.new.self.items c.in-Some-2.inputs c.in-Some.ensures
    (ap (λ (k : ℕ). after_steps c.args.slots.now k (text_line c.in-Some.line)) (sym count) ∙ c.in_ok-inputs.ensures.0)
    (c.in_ok-inputs.ensures.1 ∙ c.in-Some-2.is) (ap is_none (sym c.in-Some-2.is) ∙ c.in_ok-inputs.ensures.2)
    (c.push.ensures.items ∙ ap (λ (t : Bool). cond t (c.loop-line.steps.items ++ c.in-Some-2.inputs ∷ []) c.loop-line.steps.items) c.if-is_err.ensures.negation) c.loop-line.invariant

pub returns-in-None : goal.returns-in-None
returns-in-None c =
    let count : c.len.result ≡ length c.loop-line.steps.items = omega (arith, c.len.ensures, c.loop-line.steps.ok.0) in
    read-ended c.args.slots.now c.args.lines (text_line c.in-Some.line) c.loop-line.lines c.next_line.new.self c.loop-line.steps.items c.in-Some.ensures c.in_ok-refuse_more-in-None.ensures
    (ap (λ (k : ℕ). after_steps c.args.slots.now k (text_line c.in-Some.line)) (sym count) ∙ c.in_ok-inputs.ensures.0)
    (c.in_ok-inputs.ensures.1 ∙ c.in-None.is) (ap is_none (sym c.in-None.is) ∙ c.in_ok-inputs.ensures.2) c.loop-line.invariant
