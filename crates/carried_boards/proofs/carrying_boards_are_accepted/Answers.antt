use Rattle.carried_boards.proofs.Ranks.{carries-accepted}
use Rattle.carried_boards.proofs.carrying_boards_are_accepted.Goals as goal

pub returns : goal.returns
returns c = λ a b absorbed old kept rank top carries accepted ranked. carries-accepted a b absorbed old kept carries rank top accepted ranked
