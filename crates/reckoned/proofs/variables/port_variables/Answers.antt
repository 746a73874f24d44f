use Rattle.std.proofs.Common.{ℕ, Bool, ◌≡◌, ◌+◌, ◌++◌, List, take, take_all, length, length-take-le, get_or, sym, ap, ◌∙◌, arith}
use Rattle.std.proofs.lemmas.List.{take_more}
use Rattle.mig_base.specs.declared.nets.Var.{Var}
use Rattle.reckoned.specs.Variables.{port_variable, port_variables}
use Rattle.reckoned.proofs.PortLaws.{ports-push}
use Rattle.reckoned.proofs.variables.port_variables.Goals as goal

pub loop-n-preserved : goal.loop-n-preserved
loop-n-preserved c =
    let nets = c.args.nets.now in
    let n = c.loop-n.n in
    let w = get_or nets n c.index-nets-n.result in
    let before = take n nets in
    let many : n ≡ 0 + length before = let long : length before ≡ n = length-take-le n nets (omega (arith, c.loop-n-test.true)) in omega arith in
    c.in_ok-push_port.ensures ∙ ap (λ (vs : List (Var × Bool)). vs ++ port_variable n w.kind) c.loop-n.invariant
    ∙ ap (λ (m : ℕ). port_variables 0 before ++ port_variable m w.kind) many ∙ sym (ports-push 0 before w)
    ∙ ap (port_variables 0) (sym (take_more nets n c.index-nets-n.result c.loop-n-test.true))

pub returns : goal.returns
returns c = c.loop-n.invariant ∙ ap (port_variables 0) (take_all c.loop-n.n c.args.nets.now c.loop-n-test.false)
