use Rattle.std.proofs.Common.{arith}
use Rattle.std.proofs.lemmas.Grind.{common_steps}
use Rattle.answers.proofs.Spaced.{ports-text}
use Rattle.answers.proofs.shows.write_ports.Goals as goal

pub returns : goal.returns
returns c = let h = ports-text c.args.nets.now in grind (arith, common_steps)
