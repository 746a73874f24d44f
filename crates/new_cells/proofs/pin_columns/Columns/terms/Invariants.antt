use Rattle.std.proofs.Common.{◌≡◌, take}
use Rattle.new_board.specs.NewFiles.{new_terms}
use Rattle.new_cells.proofs.pin_columns.Columns.terms.Given as goal

abbrev pub invariant-loop-term : goal.invariant-loop-term
invariant-loop-term l = l.products.items ≡ new_terms l.self.nets.old.now l.self.nets.chip.now (take l.term-index l.terms)
