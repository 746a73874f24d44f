use Rattle.std.proofs.Common.{◌≡◌, ◌++◌, drop, length}
use Rattle.mig_base.specs.Cells.{lits_of}
use Rattle.devices.proofs.reading.literals.Given as goal

abbrev pub invariant-loop-column : goal.invariant-loop-column
invariant-loop-column l = l.literals.items ++ lits_of (drop (length l.yielded) l.columns) (drop (length l.yielded) l.fuses) ≡ lits_of l.columns l.fuses
