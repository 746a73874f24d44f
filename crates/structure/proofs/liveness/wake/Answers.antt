use Rattle.std.proofs.Common.{◌≡◌, ◌<◌, ◌∙◌, Bool, List, false, get_or, length, refl, sym, ap, arith}
use Rattle.std.proofs.lemmas.Option.{slice_get_read}
use Rattle.std.specs.Prelude.{slice_get}
use Rattle.mig_base.specs.declared.circuit.Driver.{Driver}
use Rattle.structure.specs.Waking.{falses}
use Rattle.structure.proofs.Wakings.{waking-next, falses-raised}
use Rattle.structure.proofs.liveness.wake.Goals as goal

pub returns-clause-waking : goal.returns-clause-waking
returns-clause-waking c =
    waking-next c.args.circuit.now c.args.waking.now c.args.unit c.index-units-unit.result c.set.new.self c.add_unit.new.set c.requires.waking c.requires.live
    (ap (λ (units : List Driver). slice_get units c.args.unit) (sym c.items-units.ensures) ∙ slice_get_read c.items-units.result.now (length c.items-units.result.now) c.args.unit c.index-units-unit.result refl (omega (arith, c.if-unit-units.false)) c.index-units-unit.is)
    c.set.ensures c.add_unit.ensures

pub returns-clause-moved : goal.returns-clause-moved
returns-clause-moved c = λ _.
    let was : get_or c.args.waking.now.live c.args.unit false ≡ false = ap (λ (bs : List Bool). get_or bs c.args.unit false) (sym c.items.ensures) ∙ sym c.flag_at.ensures ∙ c.if-flag_at.false in
    let within : c.args.unit < length c.args.waking.now.live = omega (arith, c.if-unit-units.false, ap length c.items-units.ensures, c.requires.waking.units) in
    omega (arith, ap falses c.set.ensures, falses-raised c.args.waking.now.live c.args.unit within was)
