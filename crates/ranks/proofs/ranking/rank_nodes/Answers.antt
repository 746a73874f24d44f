use Rattle.std.proofs.Common.{sym, subst}
use Rattle.ranks.specs.Ranking.{IsRanking}
use Rattle.ranks.proofs.RankingLaws.{ranking-start}
use Rattle.ranks.proofs.ranking.rank_nodes.Goals as goal

pub loop-init : goal.loop-init
loop-init c = subst (IsRanking c.args.circuit.now) (sym c.in_ok-ranks.ensures) (ranking-start c.args.circuit.now)
