use Rattle.std.proofs.Common.{◌≡◌, map, take}
use Rattle.new_board.specs.NewFiles.{new_chip_line}
use Rattle.new_wirings.proofs.new_wires.new_chips.Given as goal

abbrev pub invariant-loop-chip : goal.invariant-loop-chip
invariant-loop-chip l = l.lines.items ≡ map new_chip_line (take l.chip-index l.chips)
