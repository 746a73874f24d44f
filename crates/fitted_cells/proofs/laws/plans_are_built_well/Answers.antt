use Rattle.fitted_cells.proofs.PlansBuilt.{plans-built}
use Rattle.fitted_cells.proofs.laws.plans_are_built_well.Goals as goal

pub returns : goal.returns
returns c = plans-built
