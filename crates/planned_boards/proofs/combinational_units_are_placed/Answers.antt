use Rattle.planned_boards.proofs.CombUnits.{comb-placed}
use Rattle.planned_boards.proofs.combinational_units_are_placed.Goals as goal

pub returns : goal.returns
returns c = comb-placed
