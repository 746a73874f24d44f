use Rattle.std.proofs.Common.{sym, ap, subst, arith}
use Rattle.ranks.specs.Marked.{waiting}
use Rattle.ranks.specs.Ranking.{IsRanking}
use Rattle.ranks.proofs.Marking.{waiting-marked}
use Rattle.ranks.proofs.RankingLaws.{ranking-next}
use Rattle.ranks.proofs.ranking.rank_node.Goals as goal

pub rank_of-requires-clause-room : goal.rank_of-requires-clause-room
rank_of-requires-clause-room c = λ v.
    omega (arith, c.requires.ranking.room v, c.requires.graph.few, waiting-marked c.args.ranks.now c.args.node 0 (c.waits.ensures.yes c.if-not-waits.false))

pub returns-in-Some-clause-ranking : goal.returns-in-Some-clause-ranking
returns-in-Some-clause-ranking c =
    subst (IsRanking c.args.circuit.now) (sym c.set.ensures)
    (ranking-next c.args.circuit.now c.args.ranks.now c.args.node c.in-Some.rank c.requires.ranking (c.waits.ensures.yes c.if-not-waits.false) c.in-Some.ensures.rank)

pub returns-in-Some-clause-moved : goal.returns-in-Some-clause-moved
returns-in-Some-clause-moved c = λ _.
    omega (arith, ap waiting c.set.ensures, waiting-marked c.args.ranks.now c.args.node c.in-Some.rank (c.waits.ensures.yes c.if-not-waits.false))
