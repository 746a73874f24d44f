use Rattle.mig_base.specs.declared.circuit.Read.TheVariants.{OfNet}
use Rattle.ranks.proofs.Graphing.{pushed-next}
use Rattle.ranks.proofs.graph.add_nets.Goals as goal

pub loop-net-preserved : goal.loop-net-preserved
loop-net-preserved c =
    pushed-next OfNet c.loop-net.net c.args.nodes.now.items c.loop-net.nodes.items c.push.new.self.items c.loop-net.invariant c.in_ok-push.ensures.items
