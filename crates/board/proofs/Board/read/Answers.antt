use Rattle.std.proofs.Common.{ℕ, List, length, get_or, sym, ap, subst, ◌∙◌, arith}
use Rattle.mig_base.specs.declared.circuit.Read.TheVariants.{OfRegister}
use Rattle.mig_base.specs.Reads.{IsNode}
use Rattle.board.specs.Joined.{equations_of}
use Rattle.board.specs.Variables.{IsVariable, read_of, var_of}
use Rattle.board.proofs.BoardLaws.{holds, place-within, place-is, read-node, read-back}
use Rattle.board.proofs.Board.read.Goals as goal

pub bounds-items-unit : goal.bounds-items-unit
bounds-items-unit c =
    let b = c.args.self.now in
    let h = holds c.self.invariant b c.self.view_is in
    let within = place-within b.net b.chips c.self.inside.tables c.in-Reg.unit h.tables (subst (IsVariable b) c.in-Reg.is c.requires) in
    omega (arith, ap length c.items.ensures, within)

pub returns-in-Reg-clause-read : goal.returns-in-Reg-clause-read
returns-in-Reg-clause-read c =
    let b = c.args.self.now in
    let h = holds c.self.invariant b c.self.view_is in
    ap OfRegister (ap (λ (places : List ℕ). get_or places c.in-Reg.unit 0) c.items.ensures
    ∙ place-is b.net b.chips c.self.inside.tables c.in-Reg.unit 0 h.tables (subst (IsVariable b) c.in-Reg.is c.requires))
    ∙ ap (read_of b.chips) (sym c.in-Reg.is)

pub returns-in-Reg-clause-node : goal.returns-in-Reg-clause-node
returns-in-Reg-clause-node c =
    let b = c.args.self.now in
    subst (IsNode (equations_of b)) (sym (returns-in-Reg-clause-read c)) (read-node b c.args.variable c.requires)

pub returns-in-Reg-clause-back : goal.returns-in-Reg-clause-back
returns-in-Reg-clause-back c =
    let b = c.args.self.now in
    ap (var_of b.chips) (returns-in-Reg-clause-read c) ∙ read-back b c.args.variable c.requires
