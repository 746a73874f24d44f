use Rattle.std.proofs.Common.{◌≡◌, ◌++◌, drop}
use Rattle.std.specs.Prelude.{filter}
use Rattle.new_board.specs.InputPins.{is_free}
use Rattle.avail.proofs.taking.free_pins_of.Given as goal

abbrev pub invariant-loop-pin : goal.invariant-loop-pin
invariant-loop-pin l = l.free.items ++ filter (is_free l.nets.old.now l.nets.chip.now) (drop l.pin-index l.pin-items) ≡ filter (is_free l.nets.old.now l.nets.chip.now) l.pin-items
