use Rattle.ranks.proofs.RankLaws.{ranks-ranked}
use Rattle.ranks.proofs.ranks_rise.Goals as goal

pub returns : goal.returns
returns c = ranks-ranked
