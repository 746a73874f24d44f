use Rattle.palmig_top.proofs.NewFilesMade.{found-ends}
use Rattle.palmig_top.proofs.PlanSteps.{unplanned, by-handed}
use Rattle.palmig_top.proofs.commands.migrate.prepare_on.Goals as goal

pub returns-in-Some-clause-step : goal.returns-in-Some-clause-step
returns-in-Some-clause-step g c =
    by-handed c.args.migration.now c.args.board.now c.args.migration.now.plan c.in-Some.plan (g.F.Files.held c.args.files.now) (g.F.Files.held c.by_plan.new.files)
    (g.F.Files.counts c.args.files.now) (g.F.Files.counts c.by_plan.new.files) c.by_plan.result c.in-Some.is c.by_plan.ensures.step

pub returns-in-None-clause-step : goal.returns-in-None-clause-step
returns-in-None-clause-step g c =
    unplanned c.args.migration.now c.args.board.now c.args.migration.now.plan (g.F.Files.held c.args.files.now) (g.F.Files.counts c.args.files.now) c.prepared_of.result c.in-None.is c.prepared_of.ensures

pub returns-in-None-clause-end : goal.returns-in-None-clause-end
returns-in-None-clause-end g c = found-ends c.args.migration.now c.args.board.now c.prepared_of.result c.prepared_of.ensures
