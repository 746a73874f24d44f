use Rattle.std.proofs.Common.{◌≡◌, ◌∙◌, ap, sym, List, Result, Ok, Err}
use Rattle.std.proofs.lemmas.Result.{err_from_is_err_and}
use Rattle.mig_base.specs.declared.circuit.Inputs.{Inputs}
use Rattle.mig_base.specs.declared.scripts.Script.{Script}
use Rattle.mig_base.specs.declared.scripts.ScriptError.{ScriptError}
use Rattle.sim_run.specs.ScriptText.{script_of_lines}
use Rattle.sim_run.specs.Statements.{UnlessMemory}
use Rattle.text_lines.specs.Statements.{text_line}
use Rattle.sim_run.proofs.Tables.{lines-said, wrapped, unless-more}
use Rattle.sim_run.proofs.reading.script_on.Goals as goal

pub returns-in_err-steps : goal.returns-in_err-steps
returns-in_err-steps c =
    let p = err_from_is_err_and c.from_residual-in_err-steps.result c.from_residual-in_err-steps.ensures.1 in
    let h : UnlessMemory c.in_err-steps.field-0.0 (script_of_lines c.args.ports.now c.args.lines ≡ Err c.in_err-steps.field-0.0) =
    unless-more c.in_err-steps.field-0.0 _ _
    (λ e. lines-said c.args.ports.now c.in_ok-slots.slots.items c.as_slice.result.now c.args.lines c.next_line.new.self c.next_line-2.new.self (text_line c.in-Some.head) (text_line c.in-Some-next_line.named)
    c.in-Some.ensures c.in-Some-next_line.ensures c.as_slice.ensures.value c.in_ok-read_head.ensures c.in_ok-slots.ensures.0 c.in_ok-slots.ensures.1
    ∙ ap wrapped e) c.in_err-steps.ensures in
    rw (p.1, p.2) h

pub returns : goal.returns
returns c =
    lines-said c.args.ports.now c.in_ok-slots.slots.items c.as_slice.result.now c.args.lines c.next_line.new.self c.next_line-2.new.self (text_line c.in-Some.head) (text_line c.in-Some-next_line.named)
    c.in-Some.ensures c.in-Some-next_line.ensures c.as_slice.ensures.value c.in_ok-read_head.ensures c.in_ok-slots.ensures.0 c.in_ok-slots.ensures.1
    ∙ ap wrapped c.in_ok-steps.ensures ∙ ap (λ (is : List Inputs). let r : Result Script ScriptError = Ok (record { steps = is }) in r) (sym c.new.ensures)
