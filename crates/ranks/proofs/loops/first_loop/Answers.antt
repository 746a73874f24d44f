use Rattle.std.proofs.Common.{◌∙◌, get_or, refl, sym, subst}
use Rattle.std.specs.Prelude.{IfSome, IfNone}
use Rattle.std.proofs.lemmas.List.{take_all}
use Rattle.mig_base.specs.declared.circuit.Read.TheVariants.{OfNet}
use Rattle.mig_base.specs.Among.{Among}
use Rattle.ranks.specs.FirstLoop.{IsOnLoop}
use Rattle.ranks.specs.Ways.{IsLoopBack}
use Rattle.mig_base.proofs.Amongs.{among-node, node-among}
use Rattle.ranks.proofs.Putting.{among-at}
use Rattle.ranks.proofs.LoopLaws.{loop-first}
use Rattle.ranks.proofs.Finishing.{none-next}
use Rattle.ranks.proofs.WayLaws.{walk-node}
use Rattle.ranks.proofs.loops.first_loop.Goals as goal

pub loop_from-requires-clause-home : goal.loop_from-requires-clause-home
loop_from-requires-clause-home c =
    let nodes = c.items-node-items.result.now in
    among-node c.args.circuit.now _ (subst (Among _) (c.items-node-items.ensures ∙ c.requires.graph.nodes) (among-at nodes c.loop-node.node-index (OfNet 0) c.loop-node-test.true))

pub returns-in-Some-clause-first : goal.returns-in-Some-clause-first
returns-in-Some-clause-first c =
    let nodes = c.items-node-items.result.now in
    loop-first c.args.circuit.now nodes c.loop-node.node-index _ (OfNet 0) c.in-Some.cycle (c.items-node-items.ensures ∙ c.requires.graph.nodes) c.loop-node-test.true refl c.loop-node.invariant
    (subst (λ o. IfSome o (IsLoopBack c.args.circuit.now (get_or nodes c.loop-node.node-index (OfNet 0)))) c.in-Some.is c.in_ok-cycle.ensures.loop_back)

pub loop-node-preserved : goal.loop-node-preserved
loop-node-preserved c =
    let nodes = c.items-node-items.result.now in
    none-next (IsOnLoop c.args.circuit.now) nodes c.loop-node.node-index (OfNet 0) c.loop-node-test.true c.loop-node.invariant
    (subst (λ o. IfNone o (IsOnLoop c.args.circuit.now (get_or nodes c.loop-node.node-index (OfNet 0)) → ⊥)) c.in_default.is c.in_ok-cycle.ensures.no_loop)

pub returns-clause-no_loop : goal.returns-clause-no_loop
returns-clause-no_loop c = λ v way.
    let nodes = c.items-node-items.result.now in
    c.loop-node.invariant v
    (subst (Among v) (sym (take_all c.loop-node.node-index nodes c.loop-node-test.false ∙ c.items-node-items.ensures ∙ c.requires.graph.nodes)) (node-among c.args.circuit.now v (walk-node c.args.circuit.now way.0 v v way.1))) way
