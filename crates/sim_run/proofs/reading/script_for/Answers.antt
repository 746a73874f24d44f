use Rattle.std.proofs.Common.{◌≡◌, ◌∙◌, ap, subst, List, Result}
use Rattle.sim_run.specs.declared.handed.HandedPort.{HandedPort}
use Rattle.mig_base.specs.declared.scripts.Script.{Script}
use Rattle.mig_base.specs.declared.scripts.ScriptError.{ScriptError}
use Rattle.sim_run.specs.ScriptText.{ports_of, script_of_lines, script_of_text}
use Rattle.sim_run.specs.Statements.{Answers}
use Rattle.sim_run.proofs.reading.script_for.Goals as goal

pub returns : goal.returns
returns c =
    let same : script_of_lines c.as_slice.result.now c.new.result ≡ script_of_text (ports_of c.args.net.now) c.args.bytes.now =
    ap (λ (ps : List HandedPort). script_of_lines ps c.new.result) (c.as_slice.ensures.value ∙ c.in-Ok.ensures) ∙ ap (script_of_lines (ports_of c.args.net.now)) c.new.ensures in
    subst (λ (r : Result Script ScriptError). Answers r c.script_on.result) same c.script_on.ensures
