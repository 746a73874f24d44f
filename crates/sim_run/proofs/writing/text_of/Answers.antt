use Rattle.std.proofs.Common.{◌≡◌, ap, ◌∙◌, arith}
use Rattle.std.proofs.lemmas.Grind.{common_steps}
use Rattle.sim_run.specs.ScriptText.{ports_of, script_of_text}
use Rattle.sim_run.specs.WrittenScript.{written_script}
use Rattle.sim_run.proofs.ReadBack.{script-read}
use Rattle.sim_run.proofs.writing.text_of.Goals as goal

pub returns-clause-read_back : goal.returns-clause-read_back
returns-clause-read_back c =
    let written : c.into_bytes.result.items ≡ written_script c.args.net.now c.args.script.now = grind (arith, common_steps) in
    ap (script_of_text (ports_of c.args.net.now)) written ∙ script-read c.args.net.now c.args.script.now c.requires
