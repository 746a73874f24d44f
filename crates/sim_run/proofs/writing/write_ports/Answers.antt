use Rattle.std.proofs.Common.{arith}
use Rattle.std.proofs.lemmas.Grind.{common_steps}
use Rattle.sim_run.proofs.WrittenSteps.{ports-text}
use Rattle.sim_run.proofs.writing.write_ports.Goals as goal

pub returns : goal.returns
returns c = let h = ports-text c.args.nets.now in grind (arith, common_steps)
