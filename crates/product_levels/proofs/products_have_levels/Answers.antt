use Rattle.read_nodes.proofs.GivenNodes.{given-nodes}
use Rattle.product_levels.proofs.ProductLevels.{part-level}
use Rattle.product_levels.proofs.products_have_levels.Goals as goal

pub returns : goal.returns
returns c = λ b stored inputs l u part given accepted settled. part-level b stored inputs l accepted (given-nodes b.net b.chips given) settled u part
