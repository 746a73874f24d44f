use Rattle.std.proofs.Common.{◌≡◌, ◌++◌, drop}
use Rattle.new_board.specs.OneForOne.{placed_from}
use Rattle.build.proofs.one_for_one.placed.Given as goal

abbrev pub invariant-loop-number : goal.invariant-loop-number
invariant-loop-number l = l.placed.items ++ placed_from l.old.circuit l.chip l.number (drop l.number l.old.units) ≡ placed_from l.old.circuit l.chip 0 l.old.units
