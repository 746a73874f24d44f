use Rattle.kept_plans.proofs.KeptChips.{chips-kept}
use Rattle.kept_plans.proofs.plans_keep_chips.Goals as goal

pub returns : goal.returns
returns c = λ b p chips given plan none are. chips-kept b p chips given plan none are
