use Rattle.made_cells.proofs.MadeCells.{made-well}
use Rattle.made_cells.proofs.made_cells_are_well_formed.Goals as goal

pub returns : goal.returns
returns c = made-well
