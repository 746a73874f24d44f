use Rattle.std.proofs.Common.{◌≡◌, ◌∙◌, Bool, List, Option, false, true, get_or, sym, ap, arith}
use Rattle.mig_base.specs.declared.circuit.Wire.{Wire}
use Rattle.structure.specs.NodeSets.{contains, trues}
use Rattle.structure.specs.Pure.{net_rule}
use Rattle.structure.proofs.Purities.{above-without_net, trues-taken}
use Rattle.structure.proofs.purity.drop_net.Goals as goal

pub returns-clause-above : goal.returns-clause-above
returns-clause-above c =
    above-without_net c.args.circuit.now c.args.set.now c.args.net c.set.new.self c.requires.above
    (ap (λ (o : Option Wire). net_rule c.args.circuit.now (contains c.args.set.now) o) c.requires.wire ∙ sym c.is_pure_net.ensures ∙ c.if-is_pure_net.false) c.set.ensures

pub returns-clause-moved : goal.returns-clause-moved
returns-clause-moved c = λ _.
    let was : get_or c.args.set.now.nets c.args.net false ≡ true = ap (λ (bs : List Bool). get_or bs c.args.net false) (sym c.items.ensures) ∙ sym c.flag_at.ensures ∙ c.if-not-flag_at.false in
    omega (arith, ap trues c.set.ensures, trues-taken c.args.set.now.nets c.args.net was)
