use Rattle.std.proofs.Common.{sym, subst, ◌∙◌}
use Rattle.structure.specs.Pure.{IsPure}
use Rattle.board.specs.Joined.{equations_of}
use Rattle.board.proofs.BoardLaws.{holds}
use Rattle.board.proofs.Board.is_pure.Goals as goal

pub returns-clause-yes : goal.returns-clause-yes
returns-clause-yes c =
    let b = c.args.self.now in
    let h = holds c.self.invariant b c.self.view_is in
    λ is. subst (IsPure (equations_of b)) c.read.ensures.read (h.structure.purity.sound c.read.result (sym c.has.ensures ∙ is))

pub returns-clause-no : goal.returns-clause-no
returns-clause-no c =
    let b = c.args.self.now in
    let h = holds c.self.invariant b c.self.view_is in
    λ pure. c.has.ensures ∙ h.structure.purity.every c.read.result (subst (IsPure (equations_of b)) (sym c.read.ensures.read) pure)
