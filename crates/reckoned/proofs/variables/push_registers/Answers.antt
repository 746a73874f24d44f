use Rattle.std.proofs.Common.{◌<◌, length, List, ℕ, take_all, get_or, sym, ◌∙◌, subst}
use Rattle.mig_base.specs.declared.nets.Var.TheVariants.{Reg}
use Rattle.board.specs.Variables.{IsVariable}
use Rattle.reckoned.specs.Variables.{IsExtended}
use Rattle.reckoned.proofs.RegisterLaws.{registers-start, registers-next, register-variable}
use Rattle.reckoned.proofs.variables.push_registers.Goals as goal

pub loop-unit-init : goal.loop-unit-init
loop-unit-init c = registers-start c.args.b.now c.args.vars.now.items

pub is_pure-requires : goal.is_pure-requires
is_pure-requires c =
    let b = c.args.b.now in
    let i = c.loop-unit.unit-index in
    let same = c.registers-registers.ensures.units in
    subst (λ (us : List ℕ). IsVariable b (Reg (get_or us i 0))) (sym same) (register-variable b i (subst (λ (us : List ℕ). i < length us) same c.loop-unit-test.true))

pub loop-unit-preserved : goal.loop-unit-preserved
loop-unit-preserved c =
    let b = c.args.b.now in
    let i = c.loop-unit.unit-index in
    let us = c.registers-registers.result.now in
    registers-next b c.args.vars.now.items c.loop-unit.vars.items c.push.new.self.items i c.is_pure.result us c.registers-registers.ensures.units c.loop-unit-test.true c.loop-unit.invariant c.in_ok-push.ensures.items
    c.is_pure.ensures.yes c.is_pure.ensures.no

pub returns : goal.returns
returns c =
    subst (λ (us : List ℕ). IsExtended c.args.b.now us c.args.vars.now.items c.loop-unit.vars.items)
    (take_all c.loop-unit.unit-index c.registers-registers.result.now c.loop-unit-test.false ∙ c.registers-registers.ensures.units) c.loop-unit.invariant
