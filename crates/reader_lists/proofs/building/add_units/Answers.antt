use Rattle.reader_lists.proofs.Adding.{units-more}
use Rattle.reader_lists.proofs.building.add_units.Goals as goal

pub loop-unit-preserved : goal.loop-unit-preserved
loop-unit-preserved c =
    units-more c.args.circuit.now c.args.readers.now c.loop-unit.readers c.add_driver.new.readers c.loop-unit.unit c.loop-unit.invariant c.in_ok-add_driver.ensures
