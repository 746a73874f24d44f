use Rattle.std.proofs.Common.{◌∙◌}
use Rattle.new_cells.proofs.CodeColumns.{needed-again, pins-needed, columns-again}
use Rattle.new_cells.proofs.pin_columns.Columns.new.Goals as goal

pub columns_by_pin-requires : goal.columns_by_pin-requires
columns_by_pin-requires c =
    c.as_slice-2.ensures.value
    ∙ pins-needed c.new-nets.result.old.now c.args.old.now c.new-nets.result.chip.now c.args.chip.now c.in_ok-needed.needed.items c.as_slice.result.now c.in_ok-taken.taken.items
    c.new-nets.ensures.old c.new-nets.ensures.chip c.as_slice.ensures.value c.in_ok-needed.ensures c.in_ok-taken.ensures

pub invariant_of-result : goal.invariant_of-result
invariant_of-result c = record {
  needed_are = needed-again c.new-nets.result.old.now c.args.old.now c.new-nets.result.chip.now c.args.chip.now c.in_ok-needed.needed.items c.new-nets.ensures.old c.new-nets.ensures.chip c.in_ok-needed.ensures;
  taken_are =
      pins-needed c.new-nets.result.old.now c.args.old.now c.new-nets.result.chip.now c.args.chip.now c.in_ok-needed.needed.items c.as_slice.result.now c.in_ok-taken.taken.items
      c.new-nets.ensures.old c.new-nets.ensures.chip c.as_slice.ensures.value c.in_ok-needed.ensures c.in_ok-taken.ensures;
  by_pin_are = c.in_ok-by_pin.ensures;
  lits_are = columns-again c.new-nets.result.old.now c.args.old.now c.new-nets.result.chip.now c.args.chip.now c.in_ok-lits.lits.items c.new-nets.ensures.old c.new-nets.ensures.chip c.in_ok-lits.ensures;
}
