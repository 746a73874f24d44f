use Rattle.std.proofs.Common.{◌≡◌, map, take}
use Rattle.new_cells.specs.PinColumns.{pin_columns}
use Rattle.new_cells.proofs.pin_columns.columns_by_pin.Given as goal

abbrev pub invariant-loop-pin : goal.invariant-loop-pin
invariant-loop-pin l = l.columns.items ≡ map (pin_columns l.nets.old.now l.nets.chip.now) (take l.pin-index l.pin-items)
