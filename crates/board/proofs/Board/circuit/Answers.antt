use Rattle.board.proofs.BoardLaws.{holds, equations-accepted}
use Rattle.board.proofs.Board.circuit.Goals as goal

pub returns-clause-accepted : goal.returns-clause-accepted
returns-clause-accepted c =
    let b = c.args.self.now in
    let h = holds c.self.invariant b c.self.view_is in
    equations-accepted b.net b.chips c.self.inside.circuit c.self.inside.ranks h.equations h.passed
