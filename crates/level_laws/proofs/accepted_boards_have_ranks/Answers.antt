use Rattle.level_laws.proofs.RanksExist.{accepted-ranks}
use Rattle.level_laws.proofs.accepted_boards_have_ranks.Goals as goal

pub returns : goal.returns
returns c = λ b accepted. let ranks = accepted-ranks b accepted in (ranks.rank, ranks.top, ranks.ranked)
