use Rattle.std.proofs.Common.{◌≡◌, map, take}
use Rattle.new_board.specs.OneForOne.{place_line}
use Rattle.build.proofs.one_for_one.place_lines.Given as goal

abbrev pub invariant-loop-unit : goal.invariant-loop-unit
invariant-loop-unit l = l.lines.items ≡ map (place_line l.net) (take l.unit-index l.units)
