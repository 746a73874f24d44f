use Rattle.std.proofs.Common.{Ok, refl}
use Rattle.answers.specs.declared.words.Command.TheVariants as command
use Rattle.verdicts.specs.Answer.{Call}
use Rattle.verdicts.specs.commands.Migrate.{PreparesMigration}
use Rattle.palmig_top.proofs.Ending.{keeps-concluded}
use Rattle.palmig_top.proofs.commands.migrate.migrate.Goals as goal

pub returns : goal.returns
returns g c =
    let call : Call = record {
      said = Ok (command.Migrate c.args.migration.now);
      held = g.F.Files.held c.args.files.now;
      after = g.F.Files.held c.conclude.new.files;
      before = g.F.Files.counts c.args.files.now;
      now = g.F.Files.counts c.conclude.new.files;
      sent = g.O.Sink.sent c.args.out.now;
      sent_after = g.O.Sink.sent c.conclude.new.out;
      faults = g.O.Sink.faults c.args.out.now;
      faults_after = g.O.Sink.faults c.conclude.new.out;
    } in
    keeps-concluded call (command.Migrate c.args.migration.now) (PreparesMigration c.args.migration.now) (g.F.Files.held c.prepare_migration-prepared.new.files) (g.F.Files.counts c.prepare_migration-prepared.new.files) c.prepare_migration-prepared.result c.conclude.result refl
    (λ h o j. j) (λ h f l. l) c.prepare_migration-prepared.ensures.step c.prepare_migration-prepared.ensures.end c.conclude.ensures
