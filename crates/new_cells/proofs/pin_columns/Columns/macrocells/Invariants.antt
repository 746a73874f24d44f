use Rattle.std.proofs.Common.{◌≡◌, map, take}
use Rattle.new_board.specs.NewFiles.{new_cell}
use Rattle.new_cells.proofs.pin_columns.Columns.macrocells.Given as goal

abbrev pub invariant-loop-pin : goal.invariant-loop-pin
invariant-loop-pin l = l.cells.items ≡ map (new_cell l.self.nets.old.now l.self.nets.chip.now) (take l.pin-index l.pin-items)
