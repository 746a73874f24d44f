use Rattle.level_laws.proofs.PureSteps.{runs-pure}
use Rattle.level_laws.proofs.runs_show_pure_levels.Goals as goal

pub returns : goal.returns
returns c = runs-pure
