use Rattle.ranks.specs.Marked.{waiting}
use Rattle.ranks.specs.Ranking.{IsRanking}
use Rattle.ranks.proofs.ranking.rank_nodes.Given as goal

abbrev pub invariant-loop : goal.invariant-loop
invariant-loop l = IsRanking l.circuit l.ranks

abbrev pub decreases-loop : goal.decreases-loop
decreases-loop l = waiting l.ranks
