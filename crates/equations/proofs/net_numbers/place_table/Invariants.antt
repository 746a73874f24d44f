use Rattle.std.proofs.Common.{◌+◌, drop}
use Rattle.mig_base.specs.Boards.{place_of}
use Rattle.equations.specs.Tables.{IsTable}
use Rattle.equations.proofs.net_numbers.place_table.Given as goal

abbrev pub invariant-loop-place : goal.invariant-loop-place
invariant-loop-place l = IsTable (λ q. l.first + (l.place + place_of q (drop l.place l.listed))) l.chips l.table
