use Rattle.level_laws.proofs.PureSteps.{start-pure}
use Rattle.level_laws.proofs.power_up_is_pure.Goals as goal

pub returns : goal.returns
returns c = start-pure
