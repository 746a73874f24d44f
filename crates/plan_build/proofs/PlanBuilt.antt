-- The board of a plan without breach shows what the old one shows.
use Rattle.std.proofs.Common.{refl, sym, subst}
use Rattle.plans.specs.Fitting.{fitted_chips}
use Rattle.fitted_cells.proofs.PlansBuilt.{plans-built}
use Rattle.carried_plans.proofs.CarriedPlans.{is-accepted, proving-matching, shows-same}
use Rattle.plan_build.specs.PlanBuilt.{IsBuilt, PlansAreBuilt}

pub plan-built : PlansAreBuilt
plan-built b p built given accepted plan none fit =
    let matching = proving-matching b p fit.chips given accepted plan none fit.are_new in
    subst (IsBuilt b p) (sym fit.are) (record {
      well = plans-built b p (fitted_chips b fit.chips) given given.wiring plan none (record { chips = fit.chips; are_new = fit.are_new; are = refl });
      accepted = is-accepted b p fit.chips given accepted plan none fit.are_new;
      same = shows-same b p fit.chips given accepted plan none fit.are_new;
      classes = matching.0;
      proving = matching.2;
    })
