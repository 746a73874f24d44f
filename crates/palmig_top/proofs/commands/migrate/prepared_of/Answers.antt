use Rattle.std.proofs.Common.{sym}
use Rattle.palmig_top.proofs.NewFilesMade.{left-for-later, done-or-memory}
use Rattle.palmig_top.proofs.commands.migrate.prepared_of.Goals as goal

pub returns-then-not-is_taken : goal.returns-then-not-is_taken
returns-then-not-is_taken c = left-for-later c.args.migration.now c.args.board.now c.in_ok-name.name (sym c.if-not-is_taken.ensures) c.in_ok-name.ensures

pub returns : goal.returns
returns c = done-or-memory c.args.migration.now c.args.board.now c.rebuilt.result (sym c.if-not-is_taken.ensures) c.rebuilt.ensures
