use Rattle.std.proofs.Common.{ap, ◌∙◌}
use Rattle.mig_base.specs.declared.circuit.Circuit.{Circuit}
use Rattle.board.specs.Joined.{equations_of}
use Rattle.board.proofs.BoardLaws.{holds, drivers-at}
use Rattle.board.proofs.Board.drivers.Goals as goal

pub returns : goal.returns
returns c =
    let b = c.args.self.now in
    let h = holds c.self.invariant b c.self.view_is in
    c.items.ensures
    ∙ drivers-at (equations_of b).nets c.items-nets.result.now c.args.net c.index-nets-net.result (c.items-nets.ensures ∙ ap (λ (x : Circuit). x.nets) h.equations) c.requires c.index-nets-net.is
