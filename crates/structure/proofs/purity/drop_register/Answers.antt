use Rattle.std.proofs.Common.{◌≡◌, ◌∙◌, Bool, List, Option, false, true, get_or, sym, ap, arith}
use Rattle.mig_base.specs.declared.circuit.Register.{Register}
use Rattle.structure.specs.NodeSets.{contains, trues}
use Rattle.structure.specs.Pure.{register_rule}
use Rattle.structure.proofs.Purities.{above-without_register, trues-taken}
use Rattle.structure.proofs.purity.drop_register.Goals as goal

pub returns-clause-above : goal.returns-clause-above
returns-clause-above c =
    above-without_register c.args.circuit.now c.args.set.now c.args.place c.set.new.self c.requires.above
    (ap (λ (o : Option Register). register_rule (contains c.args.set.now) o) c.requires.register ∙ sym c.has_register.ensures ∙ c.if-has_register.false) c.set.ensures

pub returns-clause-moved : goal.returns-clause-moved
returns-clause-moved c = λ _.
    let was : get_or c.args.set.now.registers c.args.place false ≡ true = ap (λ (bs : List Bool). get_or bs c.args.place false) (sym c.items.ensures) ∙ sym c.flag_at.ensures ∙ c.if-not-flag_at.false in
    omega (arith, ap trues c.set.ensures, trues-taken c.args.set.now.registers c.args.place was)
