use Rattle.std.proofs.Common.{◌≡◌, ◌++◌, drop}
use Rattle.new_board.specs.OneForOne.{same_chips_from}
use Rattle.build.proofs.one_for_one.same_chips.Given as goal

abbrev pub invariant-loop-number : goal.invariant-loop-number
invariant-loop-number l =
    l.made.items ++ same_chips_from l.old l.number (drop l.number l.old.net.chips) (drop l.number l.chips) ≡ same_chips_from l.old 0 l.old.net.chips l.chips
