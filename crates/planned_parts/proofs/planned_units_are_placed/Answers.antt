use Rattle.planned_parts.proofs.Units.{unit-placed}
use Rattle.planned_parts.proofs.planned_units_are_placed.Goals as goal

pub returns : goal.returns
returns c = unit-placed
