use Rattle.planned_parts.proofs.Owners.{owner}
use Rattle.placed_plans.proofs.Places.{places}
use Rattle.placed_plans.proofs.plans_place_boards.Goals as goal

pub returns : goal.returns
returns c = λ b p chips live given accepted plan none are liveness. (owner b given, places b p chips live given accepted plan none are liveness)
