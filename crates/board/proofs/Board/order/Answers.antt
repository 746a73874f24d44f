use Rattle.std.proofs.Common.{sym, subst}
use Rattle.ranks.specs.Order.{IsOrder}
use Rattle.board.specs.Joined.{equations_of}
use Rattle.board.proofs.BoardLaws.{holds, equations-order}
use Rattle.board.proofs.Board.order.Goals as goal

pub returns : goal.returns
returns c =
    let b = c.args.self.now in
    let h = holds c.self.invariant b c.self.view_is in
    subst (IsOrder (equations_of b)) (sym c.items.ensures) (equations-order b.net b.chips c.self.inside.circuit c.self.inside.ranks h.equations h.passed)
