use Rattle.std.proofs.Common.{◌≡◌, ◌++◌, drop}
use Rattle.std.specs.List.{filter_map}
use Rattle.new_board.specs.InputPins.{pin_net}
use Rattle.new_board.specs.NewFiles.{wire_at}
use Rattle.new_cells.proofs.pin_columns.Columns.wires.Given as goal

abbrev pub invariant-loop-pin : goal.invariant-loop-pin
invariant-loop-pin l =
    l.wires.items ++ filter_map (λ pin. wire_at l.self.nets.old.now pin (pin_net l.self.nets.old.now l.self.nets.chip.now pin)) (drop l.pin-index l.pin-items)
    ≡ filter_map (λ pin. wire_at l.self.nets.old.now pin (pin_net l.self.nets.old.now l.self.nets.chip.now pin)) l.pin-items
