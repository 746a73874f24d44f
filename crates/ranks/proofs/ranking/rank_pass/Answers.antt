use Rattle.std.proofs.Common.{◌∙◌, sym, subst}
use Rattle.mig_base.specs.Among.{Among}
use Rattle.ranks.specs.Ranking.{IsStuck}
use Rattle.mig_base.proofs.Amongs.{among-node}
use Rattle.ranks.proofs.Putting.{among-at}
use Rattle.ranks.proofs.RankingLaws.{all-passed}
use Rattle.ranks.proofs.ranking.rank_pass.Goals as goal

pub rank_node-requires-clause-node : goal.rank_node-requires-clause-node
rank_node-requires-clause-node c =
    let nodes = c.items-node-items.result.now in
    among-node c.args.circuit.now _ (subst (Among _) (c.items-node-items.ensures ∙ c.requires.graph.nodes) (among-at nodes c.loop-node.node-index _ c.loop-node-test.true))

pub returns-clause-stuck : goal.returns-clause-stuck
returns-clause-stuck c = λ none.
    let nodes = c.items-node-items.result.now in
    subst (IsStuck c.args.circuit.now) (sym (c.loop-node.invariant.stays none))
    (all-passed c.args.circuit.now c.args.ranks.now nodes c.loop-node.node-index (c.items-node-items.ensures ∙ c.requires.graph.nodes) c.requires.ranking c.loop-node-test.false (c.loop-node.invariant.passed none))
