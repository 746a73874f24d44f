use Rattle.std.proofs.Common.{◌≡◌, ◌++◌, drop}
use Rattle.board.specs.UnitLists.{cell_places}
use Rattle.board.proofs.unit_lists.cell_places.Given as goal

abbrev pub invariant-loop-chip : goal.invariant-loop-chip
invariant-loop-chip l = l.places.items ++ cell_places (drop l.chip-index l.chips) ≡ cell_places l.chips
