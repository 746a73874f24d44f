use Rattle.level_laws.proofs.FollowsSame.{follows-same}
use Rattle.carried_boards.specs.Carries.{old_node, IsKept, StoreAlike}
use Rattle.carried_boards.proofs.Keeping.{carries-follows}
use Rattle.carried_boards.proofs.Ranks.{carried_rank, carries-ranked}
use Rattle.carried_boards.proofs.carrying_boards_show_alike.Goals as goal

pub returns : goal.returns
returns c = λ a b absorbed old kept rank top accepted wired carries ranked.
    follows-same a b (old_node old) (IsKept kept) (StoreAlike a old kept) (carried_rank a b absorbed old kept carries rank) _
    (carries-follows a b absorbed old kept carries accepted wired) (carries-ranked a b absorbed old kept carries rank top ranked)
