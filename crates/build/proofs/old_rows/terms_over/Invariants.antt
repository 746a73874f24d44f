use Rattle.std.proofs.Common.{◌≡◌, take}
use Rattle.new_board.specs.OneForOne.{terms_over}
use Rattle.build.proofs.old_rows.terms_over.Given as goal

abbrev pub invariant-loop-term : goal.invariant-loop-term
invariant-loop-term l = l.over.items ≡ terms_over l.circuit (take l.term-index l.terms)
