use Rattle.std.proofs.Common.{◌≡◌, ◌++◌, map, drop}
use Rattle.std.specs.Prelude.{filter}
use Rattle.new_board.specs.NewChip.{is_registered_unit}
use Rattle.new_cells.proofs.pin_columns.registered_pins.Given as goal

abbrev pub invariant-loop-unit : goal.invariant-loop-unit
invariant-loop-unit l = l.pins.items ++ map (λ x. x.pin) (filter (is_registered_unit l.circuit) (drop l.unit-index l.units)) ≡ map (λ x. x.pin) (filter (is_registered_unit l.circuit) l.units)
