use Rattle.std.proofs.Common.{◌≡◌, Some}
use Rattle.std.proofs.lemmas.Result.{err_from_is_err_and}
use Rattle.mig_base.specs.declared.plans.Plan.{Plan}
use Rattle.verdicts.specs.HeldBoard.{plan_file}
use Rattle.verdicts.specs.commands.Migrate.{MigratesBy, PlansTo, plan_held}
use Rattle.palmig_top.specs.Preparing.{outcome_in}
use Rattle.palmig_top.proofs.Chains.{broken, then-found}
use Rattle.palmig_top.proofs.PlanSteps.{plan-ends}
use Rattle.palmig_top.proofs.commands.planned.by_plan.Goals as goal

pub returns-in_err-plan-clause-step : goal.returns-in_err-plan-clause-step
returns-in_err-plan-clause-step g c =
    let p = err_from_is_err_and c.from_residual.result c.from_residual.ensures.1 in
    let m = c.args.migration.now in
    let b = c.args.board.now in
    let stem = c.args.stem.now in
    rw (p.1, p.2) (broken (λ (q : Plan). q) outcome_in (λ h q. plan_held h (plan_file stem) ≡ q) (λ h. PlansTo m.new b) (λ h q. MigratesBy m (Some stem) h b q) (λ h f. f ≡ plan_file stem) (λ h f. f ≡ plan_file stem)
    (g.F.Files.held c.args.files.now) (g.F.Files.held c.read_handed_plan.new.files) (g.F.Files.counts c.args.files.now) (g.F.Files.counts c.read_handed_plan.new.files) c.in_err-plan.field-0.0
    (λ h q t. t) (λ h f l. l) c.in_err-plan.ensures.step)

pub returns-clause-step : goal.returns-clause-step
returns-clause-step g c =
    let m = c.args.migration.now in
    let b = c.args.board.now in
    let stem = c.args.stem.now in
    then-found (λ (q : Plan). q) outcome_in (λ h q. plan_held h (plan_file stem) ≡ q) (PlansTo m.new b) (λ h q. MigratesBy m (Some stem) h b q) (λ h f. f ≡ plan_file stem)
    (g.F.Files.held c.args.files.now) (g.F.Files.held c.read_handed_plan.new.files) (g.F.Files.counts c.args.files.now) (g.F.Files.counts c.read_handed_plan.new.files)
    c.in_ok-plan.plan c.planned.result (λ h q t. t) c.in_ok-plan.ensures.step c.planned.ensures

pub returns-clause-end : goal.returns-clause-end
returns-clause-end g c = plan-ends c.args.migration.now.new c.args.board.now c.in_ok-plan.plan c.planned.result c.planned.ensures
