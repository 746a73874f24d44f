use Rattle.std.proofs.Common.{subst, sym}
use Rattle.std.proofs.lemmas.Result.{IfOk-weaker}
use Rattle.joiner.specs.AbsorbedNets.{AreAbsorbedNets, IsAbsorbedTable}
use Rattle.joiner.proofs.joined.Goals as goal

pub returns-clause-joined : goal.returns-clause-joined
returns-clause-joined c =
    let b = c.args.board.now in
    let absorbed = c.args.absorbed.now in
    let table : IsAbsorbedTable b absorbed c.items.result.now = record { are = subst (AreAbsorbedNets b absorbed) (sym c.items.ensures) c.in_ok-nets.ensures; may = c.requires.absorbable } in
    IfOk-weaker c.joined_with.result _ _ (λ j given. given absorbed table) c.joined_with.ensures.joined
