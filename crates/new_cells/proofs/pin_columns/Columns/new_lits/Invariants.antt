use Rattle.std.proofs.Common.{◌≡◌, ◌++◌, drop}
use Rattle.std.specs.List.{filter_map}
use Rattle.new_board.specs.NewFiles.{new_lit}
use Rattle.new_cells.proofs.pin_columns.Columns.new_lits.Given as goal

abbrev pub invariant-loop-lit : goal.invariant-loop-lit
invariant-loop-lit l =
    l.found.items ++ filter_map (new_lit l.self.nets.old.now l.self.nets.chip.now) (drop l.lit-index l.lits)
    ≡ filter_map (new_lit l.self.nets.old.now l.self.nets.chip.now) l.lits
