use Rattle.mig_base.specs.declared.circuit.Read.TheVariants.{OfRegister}
use Rattle.ranks.proofs.Graphing.{pushed-next}
use Rattle.ranks.proofs.graph.add_registers.Goals as goal

pub loop-register-preserved : goal.loop-register-preserved
loop-register-preserved c =
    pushed-next OfRegister c.loop-register.register c.args.nodes.now.items c.loop-register.nodes.items c.push.new.self.items c.loop-register.invariant c.in_ok-push.ensures.items
