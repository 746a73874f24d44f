use Rattle.level_laws.proofs.PureSteps.{step-pure}
use Rattle.level_laws.proofs.steps_stay_pure.Goals as goal

pub returns : goal.returns
returns c = step-pure
