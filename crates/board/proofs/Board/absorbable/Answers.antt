use Rattle.std.proofs.Common.{sym, ◌∙◌}
use Rattle.board.proofs.BoardLaws.{holds, flag-is}
use Rattle.board.proofs.Board.absorbable.Goals as goal

pub returns-clause-yes : goal.returns-clause-yes
returns-clause-yes c =
    let h = holds c.self.invariant c.args.self.now c.self.view_is in
    λ is. h.structure.absorbable.sound c.args.unit (sym (c.flag_at.ensures ∙ flag-is c.args.unit c.items.ensures) ∙ is)

pub returns-clause-no : goal.returns-clause-no
returns-clause-no c =
    let h = holds c.self.invariant c.args.self.now c.self.view_is in
    λ absorbed. c.flag_at.ensures ∙ flag-is c.args.unit c.items.ensures ∙ h.structure.absorbable.every c.args.unit absorbed
