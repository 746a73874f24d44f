use Rattle.std.proofs.Common.{sym, subst}
use Rattle.mig_base.specs.declared.circuit.Read.{Read}
use Rattle.mig_base.specs.declared.circuit.Read.TheVariants.{OfNet}
use Rattle.mig_base.specs.Among.{Among}
use Rattle.ranks.proofs.Putting.{among-at}
use Rattle.ranks.proofs.Finishing.{among-next}
use Rattle.ranks.proofs.loops.has_node.Goals as goal

pub returns-then-same_node-clause-yes : goal.returns-then-same_node-clause-yes
returns-then-same_node-clause-yes c = λ _.
    let nodes = c.args.nodes.now in
    subst (λ (v : Read). Among v nodes) (sym (c.same_node.ensures.same c.if-same_node.true)) (among-at nodes c.loop-other.other-index _ c.loop-other-test.true)

pub loop-other-preserved : goal.loop-other-preserved
loop-other-preserved c =
    among-next c.args.nodes.now c.loop-other.other-index (OfNet 0) c.args.node c.loop-other-test.true c.loop-other.invariant (c.same_node.ensures.apart c.if-same_node.false)
