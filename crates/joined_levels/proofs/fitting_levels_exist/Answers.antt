use Rattle.joined_levels.proofs.Fitting.{levels-exist}
use Rattle.joined_levels.proofs.fitting_levels_exist.Goals as goal

pub returns : goal.returns
returns c = λ b absorbed terms vars levels accepted may cone. levels-exist b absorbed terms vars levels accepted may cone
