use Rattle.std.proofs.Common.{length, subst, List, ◌≤◌}
use Rattle.mig_base.specs.declared.circuit.Driver.{Driver}
use Rattle.settle.proofs.DriveLaws.{renewing-start, renewing-next, renewing-all}
use Rattle.settle.proofs.marked.renew_units.Goals as goal

pub loop-unit-init : goal.loop-unit-init
loop-unit-init c = renewing-start c.args.circuit.now c.args.marks.now c.args.out.now c.requires.lengths c.requires.units

pub loop-unit-preserved : goal.loop-unit-preserved
loop-unit-preserved c =
    renewing-next c.args.circuit.now c.args.out.now c.items-driver-items.result.now c.loop-unit.unit c.driver-item.result c.loop-unit.marks c.renew_unit.new.marks c.loop-unit.out c.renew_unit.new.out
    c.items-driver-items.ensures c.loop-unit-test.true c.driver-item.is c.loop-unit.invariant c.renew_unit.ensures

pub returns : goal.returns
returns c =
    renewing-all c.args.circuit.now c.args.out.now c.loop-unit.unit c.loop-unit.marks c.loop-unit.out
    (subst (λ (us : List Driver). length us ≤ c.loop-unit.unit) c.items-driver-items.ensures c.loop-unit-test.false) c.loop-unit.invariant
