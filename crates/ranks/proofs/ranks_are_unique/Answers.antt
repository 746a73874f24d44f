use Rattle.ranks.proofs.OneRanks.{ranks-unique}
use Rattle.ranks.proofs.ranks_are_unique.Goals as goal

pub returns : goal.returns
returns c = ranks-unique
