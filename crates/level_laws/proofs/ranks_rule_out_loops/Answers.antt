use Rattle.ranks.proofs.NoLoops.{no-loop}
use Rattle.level_laws.proofs.ranks_rule_out_loops.Goals as goal

pub returns : goal.returns
returns c = no-loop
