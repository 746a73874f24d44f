use Rattle.std.proofs.Common.{length, ap, arith}
use Rattle.board.proofs.AcceptedLaws.{equations-few}
use Rattle.board.proofs.GivenLaws.{given-small}
use Rattle.board.proofs.Board.nets.Goals as goal

pub overflow_cast-result : goal.overflow_cast-result
overflow_cast-result c =
    let b = c.self.inside in
    let h = c.self.invariant in
    let small = given-small b.net b.chips h.given in
    let few = equations-few b.net b.chips b.circuit h.equations small.nets small.lines in
    omega (arith, ap length c.items.ensures, few)
