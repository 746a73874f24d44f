use Rattle.read_nodes.proofs.GivenNodes.{given-nodes}
use Rattle.joined_levels.proofs.SettledValues.{value-settled}
use Rattle.joined_levels.proofs.joined_values_are_settled.Goals as goal

pub returns : goal.returns
returns c = λ b absorbed stored inputs l u part vars f given accepted may settled pure cone valued. value-settled b absorbed stored inputs l accepted (given-nodes b.net b.chips given) may settled pure u part vars f cone valued
