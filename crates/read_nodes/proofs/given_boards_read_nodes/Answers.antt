use Rattle.read_nodes.proofs.GivenNodes.{given-nodes}
use Rattle.read_nodes.proofs.given_boards_read_nodes.Goals as goal

pub returns : goal.returns
returns c = given-nodes
