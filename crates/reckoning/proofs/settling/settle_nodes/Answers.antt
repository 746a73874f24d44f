use Rattle.std.proofs.Common.{◌+◌, List, ◌∷◌, drop, subst, get_or}
use Rattle.std.proofs.lemmas.List.{drop_more}
use Rattle.mig_base.specs.declared.circuit.Read.{Read}
use Rattle.mig_base.specs.declared.circuit.Read.TheVariants.{OfNet}
use Rattle.reckoning.specs.Reached.{Reached}
use Rattle.reckoning.proofs.Kept.{keeps_refl, keeps_trans, triples_kept}
use Rattle.reckoning.proofs.ReachedLaws.{reached-start, reached-next}
use Rattle.reckoning.proofs.settling.settle_nodes.Goals as goal
use Rattle.reckoning.proofs.settling.settle_nodes.Goals.{In-loop-node}

abbrev unfolded : (c : In-loop-node) → Reached c.args.graph.now c.loop-node.graph c.args.circuit.now c.args.stored.now c.args.handed.now
    (get_or c.args.order.now c.loop-node.node-index (OfNet 0) ∷ drop (c.loop-node.node-index + 1) c.args.order.now) c.loop-node.table
unfolded c = subst (λ (rest : List Read). Reached c.args.graph.now c.loop-node.graph c.args.circuit.now c.args.stored.now c.args.handed.now rest c.loop-node.table)
    (drop_more c.args.order.now c.loop-node.node-index (OfNet 0) c.loop-node-test.true) c.loop-node.invariant.reached

pub loop-node-init : goal.loop-node-init
loop-node-init c = record {
  keeps = keeps_refl c.args.graph.now;
  canonical = c.vars-count.ensures.canonical;
  known = λ never. never;
  reached = reached-start c.args.graph.now c.args.circuit.now c.args.stored.now c.args.handed.now c.args.order.now c.args.table.now c.requires.order c.requires.table c.requires.places;
}

pub renew-requires-clause-node : goal.renew-requires-clause-node
renew-requires-clause-node c = (unfolded (goal.at.renew-requires-clause-node c).In-loop-node).nodes.0

pub renew-requires-clause-stored : goal.renew-requires-clause-stored
renew-requires-clause-stored c = triples_kept c.args.graph.now c.loop-node.graph c.args.stored.now c.loop-node.invariant.keeps c.requires.stored

pub renew-requires-clause-handed : goal.renew-requires-clause-handed
renew-requires-clause-handed c = triples_kept c.args.graph.now c.loop-node.graph c.args.handed.now c.loop-node.invariant.keeps c.requires.handed

pub renew-requires-clause-table : goal.renew-requires-clause-table
renew-requires-clause-table c = c.loop-node.invariant.reached.table

pub renew-requires-clause-places : goal.renew-requires-clause-places
renew-requires-clause-places c = c.loop-node.invariant.reached.places

pub loop-node-preserved : goal.loop-node-preserved
loop-node-preserved c =
    let first = c.args.graph.now in
    let now = c.loop-node.graph in
    let new = c.renew.new.graph in
    let order = c.args.order.now in
    let i = c.loop-node.node-index in record {
      keeps = keeps_trans first now new c.loop-node.invariant.keeps c.in_ok-renew.ensures.keeps;
      canonical = c.in_ok-renew.ensures.canonical;
      known = λ never. c.in_ok-renew.ensures.known (c.loop-node.invariant.known never);
      reached = reached-next first now new c.args.circuit.now c.args.stored.now c.args.handed.now (get_or order i (OfNet 0)) (drop (i + 1) order) c.loop-node.table c.renew.new.table
          c.loop-node.invariant.keeps c.in_ok-renew.ensures.keeps c.requires.stored c.requires.handed (unfolded (goal.at.loop-node-preserved c).In-loop-node) c.in_ok-renew.ensures.renewed;
    }
