use Rattle.std.proofs.Common.{◌≡◌, drop}
use Rattle.std.specs.List.{list_any}
use Rattle.new_board.specs.NewFiles.{is_full}
use Rattle.new_cells.proofs.pin_columns.Columns.any_full.Given as goal

abbrev pub invariant-loop-term : goal.invariant-loop-term
invariant-loop-term l =
    list_any (is_full l.self.nets.old.now l.self.nets.chip.now) (drop l.term-index l.terms) ≡ list_any (is_full l.self.nets.old.now l.self.nets.chip.now) l.terms
