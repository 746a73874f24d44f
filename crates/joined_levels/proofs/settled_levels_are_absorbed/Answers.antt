use Rattle.read_nodes.proofs.GivenNodes.{given-nodes}
use Rattle.joined_levels.proofs.AbsorbedLevels.{levels-absorbed}
use Rattle.joined_levels.proofs.settled_levels_are_absorbed.Goals as goal

pub returns : goal.returns
returns c = λ b absorbed stored inputs l given accepted may settled. levels-absorbed b absorbed stored inputs l accepted (given-nodes b.net b.chips given) may settled
