use Rattle.fitting_levels.proofs.Fitting.{settled-fit}
use Rattle.fitting_levels.proofs.settled_levels_fit.Goals as goal

pub returns : goal.returns
returns c = settled-fit
