use Rattle.std.proofs.Common.{◌≡◌, drop}
use Rattle.std.specs.List.{list_any}
use Rattle.new_board.specs.NewChip.{is_read_at}
use Rattle.avail.proofs.chip_nets.ChipNets.is_read.Given as goal

abbrev pub invariant-loop-pin : goal.invariant-loop-pin
invariant-loop-pin l = list_any (is_read_at l.self.old.now l.self.chip.now l.variable) (drop l.pin-index l.pin-items) ≡ list_any (is_read_at l.self.old.now l.self.chip.now l.variable) l.pin-items
