use Rattle.placed_boards.proofs.Placing.{places-carries}
use Rattle.placed_boards.proofs.placing_boards_carry.Goals as goal

pub returns : goal.returns
returns c = λ a b absorbed live owner old seen accepted wired new_wired places. places-carries a b absorbed live owner old seen accepted wired new_wired places
