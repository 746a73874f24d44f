use Rattle.std.proofs.Common.{arith}
use Rattle.std.proofs.lemmas.Grind.{common_steps}
use Rattle.answers.proofs.Spaced.{loop-text}
use Rattle.answers.proofs.reasons.write_loop.Goals as goal

pub returns : goal.returns
returns c = let h = loop-text c.args.cycle.now in grind (arith, common_steps)
