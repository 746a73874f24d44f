use Rattle.std.proofs.Common.{subst}
use Rattle.mig_base.specs.declared.nets.Net.{Net}
use Rattle.sim_run.specs.ScriptText.{ports_of, script_of_text}
use Rattle.sim_run.specs.Statements.{Answers}
use Rattle.sim_run.proofs.LawfulScripts.{read-writable, read-lawful}
use Rattle.sim_run.proofs.scripts.read_script.Goals as goal

pub returns-clause-said : goal.returns-clause-said
returns-clause-said c = subst (λ (net : Net). Answers (script_of_text (ports_of net) c.args.bytes.now) c.script_for.result) c.net.ensures.net c.script_for.ensures

pub returns-clause-writable : goal.returns-clause-writable
returns-clause-writable c = read-writable c.args.b.now.net c.args.bytes.now c.script_for.result (returns-clause-said c) c.net.ensures.given.wiring

pub returns-clause-lawful : goal.returns-clause-lawful
returns-clause-lawful c = read-lawful c.args.b.now.net c.args.b.now.chips c.script_for.result (returns-clause-writable c)
