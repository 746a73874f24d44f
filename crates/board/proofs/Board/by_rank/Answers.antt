use Rattle.std.proofs.Common.{◌∙◌}
use Rattle.board.proofs.BoardLaws.{holds, equations-ranks}
use Rattle.board.proofs.Board.by_rank.Goals as goal

pub returns : goal.returns
returns c =
    let b = c.args.self.now in
    let h = holds c.self.invariant b c.self.view_is in
    (c.self.inside.ranks, equations-ranks b.net b.chips c.self.inside.circuit c.self.inside.ranks h.equations h.passed, c.items.ensures ∙ h.by_rank)
