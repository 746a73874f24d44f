use Rattle.std.proofs.Common.{◌≡◌, map, take}
use Rattle.new_board.specs.OneForOne.{plan_chip}
use Rattle.build.proofs.one_for_one.plan_chips.Given as goal

abbrev pub invariant-loop-chip : goal.invariant-loop-chip
invariant-loop-chip l = l.lines.items ≡ map plan_chip (take l.chip-index l.chips)
