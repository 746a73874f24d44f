use Rattle.std.proofs.Common.{ℕ, List, sym, ap, subst, ◌∙◌}
use Rattle.structure.specs.Products.{var_by}
use Rattle.board.specs.Variables.{IsVariable, read_of}
use Rattle.board.proofs.BoardLaws.{holds, var-variable, var-back}
use Rattle.board.proofs.Board.var.Goals as goal

pub returns-clause-variable : goal.returns-clause-variable
returns-clause-variable c =
    let b = c.args.self.now in
    let h = holds c.self.invariant b c.self.view_is in
    let is = c.variable.ensures ∙ ap (λ (units : List ℕ). var_by units c.args.node) (c.items.ensures ∙ h.tables.registers) in
    subst (IsVariable b) (sym is) (var-variable b c.args.node c.requires)

pub returns-clause-back : goal.returns-clause-back
returns-clause-back c =
    let b = c.args.self.now in
    let h = holds c.self.invariant b c.self.view_is in
    let is = c.variable.ensures ∙ ap (λ (units : List ℕ). var_by units c.args.node) (c.items.ensures ∙ h.tables.registers) in
    ap (read_of b.chips) is ∙ var-back b c.args.node c.requires
