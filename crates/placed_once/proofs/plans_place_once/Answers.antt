use Rattle.placed_once.proofs.PlacedApart.{once}
use Rattle.placed_once.proofs.plans_place_once.Goals as goal

pub returns : goal.returns
returns c = λ b p chips none are. once b p chips none are
