use Rattle.std.proofs.Common.{take}
use Rattle.std.specs.List.{flat_map}
use Rattle.new_board.specs.NewChip.{products_by, placed_register}
use Rattle.avail.specs.Needed.{AddsProducts}
use Rattle.avail.proofs.needed.push_units.Given as goal

abbrev pub invariant-loop-unit : goal.invariant-loop-unit
invariant-loop-unit l = AddsProducts l.fn.reads.items l.reads.items (flat_map (λ x. products_by l.by_row (placed_register l.circuit x) x) (take l.unit-index l.units))
