use Rattle.std.proofs.Common.{◌≡◌, drop}
use Rattle.new_board.specs.InputPins.{chip_from}
use Rattle.avail.proofs.old_board.Old.chip_named.Given as goal

abbrev pub invariant-loop-number : goal.invariant-loop-number
invariant-loop-number l = chip_from l.number (drop l.number l.self.net.chips) l.name ≡ chip_from 0 l.self.net.chips l.name
