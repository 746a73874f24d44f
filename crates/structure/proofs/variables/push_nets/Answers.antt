use Rattle.mig_base.specs.declared.circuit.Read.TheVariants.{OfNet}
use Rattle.mig_base.proofs.ListLaws.{made-push}
use Rattle.structure.proofs.variables.push_nets.Goals as goal

pub loop-net-preserved : goal.loop-net-preserved
loop-net-preserved c = made-push (λ n. OfNet n) _ _ _ _ c.in_ok-push.ensures.items c.loop-net.invariant
