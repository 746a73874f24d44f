use Rattle.std.proofs.Common.{drop}
use Rattle.mig_base.specs.Boards.{line_at}
use Rattle.equations.specs.Tables.{IsTable}
use Rattle.equations.proofs.net_numbers.line_table.Given as goal

abbrev pub invariant-loop-place : goal.invariant-loop-place
invariant-loop-place l = IsTable (line_at (drop l.place l.lines)) l.chips l.table
