use Rattle.std.proofs.Common.{◌≡◌, drop, ◌&&◌, ◌||◌}
use Rattle.std.specs.Prelude.{filter, not}
use Rattle.new_board.specs.NewChip.{first_of}
use Rattle.new_board.specs.InputPins.{is_taken, stood_on, chip_from}
use Rattle.avail.proofs.taking.Places.open_pin.Given as goal

abbrev pub invariant-loop-pin : goal.invariant-loop-pin
invariant-loop-pin l =
    first_of (filter (λ p. not (is_taken l.taken p) && (l.anywhere || stood_on l.self.old.now l.variable p (chip_from 0 l.self.old.now.net.chips l.self.name.now))) (drop l.pin-index l.pin-items))
    ≡ first_of (filter (λ p. not (is_taken l.taken p) && (l.anywhere || stood_on l.self.old.now l.variable p (chip_from 0 l.self.old.now.net.chips l.self.name.now))) l.pin-items)
