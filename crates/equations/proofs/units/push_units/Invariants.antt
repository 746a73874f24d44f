use Rattle.std.proofs.Common.{◌≡◌, ◌++◌, map, filter, drop}
use Rattle.mig_base.specs.Boards.{ChipUnit, is_unit}
use Rattle.mig_base.specs.declared.cells.Cell.{Cell}
use Rattle.equations.proofs.units.push_units.Given as goal

abbrev pub invariant-loop-cell : goal.invariant-loop-cell
invariant-loop-cell l =
    let unit = λ (cell : Cell). let u : ChipUnit = record { chip = l.chip; cells = l.cells; cell = cell } in u in
    l.units.items ++ map unit (filter (is_unit l.cells) (drop l.cell-index l.cell-items)) ≡ l.fn.units.items ++ map unit (filter (is_unit l.cells) l.cell-items)
