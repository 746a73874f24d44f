use Rattle.std.proofs.Common.{length, ap, ◌∙◌}
use Rattle.board.proofs.BoardLaws.{holds, units-long}
use Rattle.board.proofs.Board.units.Goals as goal

pub returns-clause-all : goal.returns-clause-all
returns-clause-all c =
    let h = holds c.self.invariant c.args.self.now c.self.view_is in
    ap length (c.items.ensures ∙ h.tables.units) ∙ units-long c.args.self.now.net c.args.self.now.chips
