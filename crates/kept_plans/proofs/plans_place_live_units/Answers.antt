use Rattle.kept_plans.proofs.KeptChips.{units-planned}
use Rattle.kept_plans.proofs.plans_place_live_units.Goals as goal

pub returns : goal.returns
returns c = λ b p chips live given plan none are liveness. units-planned b p chips given plan none are live liveness
