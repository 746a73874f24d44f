use Rattle.level_laws.proofs.ClockLevels.{clock-settled}
use Rattle.level_laws.proofs.clock_levels_are_handed.Goals as goal

pub returns : goal.returns
returns c = clock-settled
