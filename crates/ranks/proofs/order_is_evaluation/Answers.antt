use Rattle.ranks.proofs.OrderOfRanks.{ranks-order}
use Rattle.ranks.proofs.order_is_evaluation.Goals as goal

pub returns : goal.returns
returns c = ranks-order
