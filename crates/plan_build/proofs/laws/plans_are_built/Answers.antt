use Rattle.plan_build.proofs.PlanBuilt.{plan-built}
use Rattle.plan_build.proofs.laws.plans_are_built.Goals as goal

pub returns : goal.returns
returns c = plan-built
