use Rattle.std.proofs.Common.{subst}
use Rattle.std.specs.Prelude.{IfNone}
use Rattle.mig_base.specs.declared.circuit.Read.{Read}
use Rattle.ranks.specs.FirstLoop.{IsOnLoop}
use Rattle.ranks.proofs.Finishing.{all-ranked}
use Rattle.ranks.proofs.ranks_of.Goals as goal

pub by_rank-requires-clause-all : goal.by_rank-requires-clause-all
by_rank-requires-clause-all c =
    all-ranked c.args.circuit.now c.in_ok-ranks.ranks c.in_ok-ranks.ensures
    (subst (λ o. IfNone o ((v : Read) → IsOnLoop c.args.circuit.now v → ⊥)) c.in-None.is c.in_ok-cycle.ensures.no_loop)
