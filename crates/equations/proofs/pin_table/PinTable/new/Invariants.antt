use Rattle.std.proofs.Common.{◌≡◌, replicate}
use Rattle.equations.proofs.pin_table.PinTable.new.Given as goal

abbrev pub invariant-loop : goal.invariant-loop
invariant-loop g l = l.entries.items ≡ replicate l.counter l.entry
