use Rattle.sim_run.proofs.GivenScripts.{script-given}
use Rattle.sim_run.proofs.tests.written_again.Goals as goal

pub text_of-requires : goal.text_of-requires
text_of-requires c = script-given c.args.net.now c.as_bytes.result.now c.in_ok-script.script c.requires c.in_ok-script.ensures
