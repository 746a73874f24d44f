use Rattle.std.proofs.Common.{◌≡◌, ◌++◌, drop, filter}
use Rattle.mig_base.specs.Boards.{pins_from, privates}
use Rattle.equations.proofs.PrivatePins.{no_line}
use Rattle.equations.proofs.net_numbers.privates_of.Given as goal

abbrev pub invariant-loop-chip : goal.invariant-loop-chip
invariant-loop-chip l = l.privates.items ++ filter (no_line l.lines.pins) (pins_from l.chip (drop l.chip l.lines.chips)) ≡ privates l.lines
