use Rattle.settle.proofs.OrderLaws.{drives-more}
use Rattle.settle.proofs.evaluating.renew_drives.Goals as goal

pub loop-unit-preserved : goal.loop-unit-preserved
loop-unit-preserved c =
    drives-more c.args.out.now c.loop-unit.out c.args.circuit.now.units c.items-driver-items.result.now c.loop-unit.unit c.driver-item.result c.drive_level-level.result c.set.new.self
    c.items-driver-items.ensures c.loop-unit-test.true c.requires c.loop-unit.invariant c.driver-item.is c.drive_level-level.ensures c.set.ensures
