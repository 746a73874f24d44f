use Rattle.ranks.proofs.OneLoop.{first_loop-unique}
use Rattle.ranks.proofs.first_loop_is_unique.Goals as goal

pub returns : goal.returns
returns c = first_loop-unique
