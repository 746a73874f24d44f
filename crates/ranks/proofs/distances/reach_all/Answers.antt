use Rattle.std.proofs.Common.{List, sym, subst}
use Rattle.std.proofs.lemmas.List.{take_more}
use Rattle.mig_base.specs.declared.circuit.Read.{Read}
use Rattle.ranks.specs.Ways.{IsReached}
use Rattle.ranks.proofs.Reaching.{reached-more}
use Rattle.ranks.proofs.distances.reach_all.Goals as goal

pub loop-node-preserved : goal.loop-node-preserved
loop-node-preserved c =
    subst (λ (tried : List Read). IsReached tried c.args.steps c.args.ways.now c.args.next.now.items c.reach.new.ways c.reach.new.next.items)
    (sym (take_more c.args.nodes.now c.loop-node.node-index _ c.loop-node-test.true))
    (reached-more _ _ c.args.steps c.args.ways.now c.args.next.now.items c.loop-node.ways c.loop-node.next.items c.reach.new.ways c.reach.new.next.items c.loop-node.invariant c.in_ok-reach.ensures)
