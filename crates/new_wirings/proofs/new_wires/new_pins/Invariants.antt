use Rattle.std.proofs.Common.{◌≡◌, ◌++◌, drop}
use Rattle.new_board.specs.NewFiles.{new_pins_from}
use Rattle.new_wirings.proofs.new_wires.new_pins.Given as goal

abbrev pub invariant-loop-number : goal.invariant-loop-number
invariant-loop-number l = l.pins.items ++ new_pins_from l.kept l.number (drop l.number l.chips) ≡ new_pins_from l.kept 0 l.chips
