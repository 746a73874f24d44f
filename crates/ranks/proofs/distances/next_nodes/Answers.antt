use Rattle.std.proofs.Common.{List, [], ◌∙◌, get_or, take, sym, ap, subst}
use Rattle.std.specs.List.{flat_map}
use Rattle.std.proofs.lemmas.List.{take_more}
use Rattle.mig_base.specs.declared.circuit.Read.{Read}
use Rattle.mig_base.specs.declared.circuit.Read.TheVariants.{OfNet}
use Rattle.ranks.specs.Neighbours.{neighbours_at}
use Rattle.ranks.specs.Ways.{IsReached}
use Rattle.ranks.proofs.Finishing.{flat-end}
use Rattle.ranks.proofs.Reaching.{reached-more}
use Rattle.ranks.proofs.distances.next_nodes.Goals as goal

pub loop-node-preserved : goal.loop-node-preserved
loop-node-preserved c =
    let readers = c.args.graph.now.readers in
    let nodes = c.args.nodes.now in
    let i = c.loop-node.node-index in
    let node : Read = get_or nodes i (OfNet 0) in
    subst (λ (tried : List Read). IsReached tried c.args.steps c.args.ways.now [] c.reach_all.new.ways c.reach_all.new.next.items)
    (sym (ap (flat_map (neighbours_at readers)) (take_more nodes i (OfNet 0) c.loop-node-test.true) ∙ flat-end (neighbours_at readers) (take i nodes) node))
    (reached-more (flat_map (neighbours_at readers) (take i nodes)) (neighbours_at readers node) c.args.steps c.args.ways.now [] c.loop-node.ways c.loop-node.next.items c.reach_all.new.ways c.reach_all.new.next.items c.loop-node.invariant
    (subst (λ (tried : List Read). IsReached tried c.args.steps c.loop-node.ways c.loop-node.next.items c.reach_all.new.ways c.reach_all.new.next.items) c.of.ensures c.in_ok-reach_all.ensures))
