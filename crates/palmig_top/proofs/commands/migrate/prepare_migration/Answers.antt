use Rattle.std.proofs.Common.{inl, inr}
use Rattle.std.proofs.lemmas.Result.{err_from_is_err_and}
use Rattle.board.specs.Joined.{Joined}
use Rattle.verdicts.specs.JudgedBoard.{JudgesBoard, LoadsBoard}
use Rattle.verdicts.specs.commands.Migrate.{PreparesMigration, LoadsMigration, LoadsPlan, MigratesBy}
use Rattle.palmig_top.specs.Preparing.{outcome_in}
use Rattle.palmig_top.proofs.Chains.{broken, chained}
use Rattle.palmig_top.proofs.commands.migrate.prepare_migration.Goals as goal

pub returns-in_err-board-clause-step : goal.returns-in_err-board-clause-step
returns-in_err-board-clause-step g c =
    let p = err_from_is_err_and c.from_residual.result c.from_residual.ensures.1 in
    let m = c.args.migration.now in
    rw (p.1, p.2) (broken (λ (b : Joined). b) outcome_in (JudgesBoard m.old) (MigratesBy m m.plan) (PreparesMigration m) (λ h f. LoadsBoard h m.old f) (LoadsMigration m)
    (g.F.Files.held c.args.files.now) (g.F.Files.held c.read_board.new.files) (g.F.Files.counts c.args.files.now) (g.F.Files.counts c.read_board.new.files) c.in_err-board.field-0.0
    (λ h q t. t) (λ h f l. inl l) c.in_err-board.ensures.step)

pub returns-clause-step : goal.returns-clause-step
returns-clause-step g c =
    let m = c.args.migration.now in
    chained (λ (b : Joined). b) outcome_in (JudgesBoard m.old) (MigratesBy m m.plan) (PreparesMigration m) (λ h f. LoadsBoard h m.old f) (λ h f. LoadsPlan m.plan f) (LoadsMigration m)
    (g.F.Files.held c.args.files.now) (g.F.Files.held c.read_board.new.files) (g.F.Files.held c.prepare_on.new.files)
    (g.F.Files.counts c.args.files.now) (g.F.Files.counts c.read_board.new.files) (g.F.Files.counts c.prepare_on.new.files)
    c.in_ok-board.board c.prepare_on.result (λ h q t. t) (λ h f j l. inr (c.in_ok-board.board, j, l)) c.in_ok-board.ensures.step c.prepare_on.ensures.step
