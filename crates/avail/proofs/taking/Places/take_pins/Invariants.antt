use Rattle.std.proofs.Common.{◌≡◌, drop, ◌||◌}
use Rattle.new_board.specs.InputPins.{take_pins, stood_on, chip_from}
use Rattle.avail.proofs.taking.Places.take_pins.Given as goal

abbrev pub invariant-loop-variable : goal.invariant-loop-variable
invariant-loop-variable l =
    take_pins (λ v p. l.anywhere || stood_on l.self.old.now v p (chip_from 0 l.self.old.now.net.chips l.self.name.now)) l.self.free.now l.taken.items (drop l.variable-index l.variables)
    ≡ take_pins (λ v p. l.anywhere || stood_on l.self.old.now v p (chip_from 0 l.self.old.now.net.chips l.self.name.now)) l.self.free.now l.fn.taken.items l.variables
