use Rattle.mig_base.specs.declared.circuit.Read.TheVariants.{OfRegister}
use Rattle.mig_base.proofs.ListLaws.{made-push}
use Rattle.structure.proofs.variables.push_registers.Goals as goal

pub loop-register-preserved : goal.loop-register-preserved
loop-register-preserved c = made-push (λ n. OfRegister n) _ _ _ _ c.in_ok-push.ensures.items c.loop-register.invariant
