use Rattle.std.proofs.Common.{◌+◌}
use Rattle.ranks.proofs.NoLoops.{no-loop}
use Rattle.ranks.specs.RankEquations.{rank_in}
use Rattle.ranks.proofs.RankLaws.{ranks-ranked}
use Rattle.ranks.proofs.ranks_rule_out_loops.Goals as goal

pub returns : goal.returns
returns c = λ board r is v n walk. no-loop board (rank_in r) (r.top + 1) (ranks-ranked board r is) v n walk
