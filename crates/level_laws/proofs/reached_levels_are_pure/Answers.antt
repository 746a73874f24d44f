use Rattle.level_laws.proofs.PureSteps.{reached-pure}
use Rattle.level_laws.proofs.reached_levels_are_pure.Goals as goal

pub returns : goal.returns
returns c = reached-pure
