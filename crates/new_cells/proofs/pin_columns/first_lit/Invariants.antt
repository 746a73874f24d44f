use Rattle.std.proofs.Common.{◌≡◌, drop}
use Rattle.new_cells.specs.PinColumns.{lit_among}
use Rattle.new_cells.proofs.pin_columns.first_lit.Given as goal

abbrev pub invariant-loop-source : goal.invariant-loop-source
invariant-loop-source l = lit_among (drop l.source-index l.by_pin) l.lit ≡ lit_among l.by_pin l.lit
