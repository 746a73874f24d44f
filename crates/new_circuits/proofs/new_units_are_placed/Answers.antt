use Rattle.new_circuits.proofs.NewUnits.{new-unit}
use Rattle.new_circuits.proofs.new_units_are_placed.Goals as goal

pub returns : goal.returns
returns c = new-unit
