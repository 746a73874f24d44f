use Rattle.level_laws.proofs.PureNodes.{settled-pure}
use Rattle.level_laws.proofs.settled_levels_are_pure.Goals as goal

pub returns : goal.returns
returns c = settled-pure
