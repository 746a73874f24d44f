use Rattle.std.proofs.Common.{◌≡◌, ◌++◌, drop}
use Rattle.mig_base.specs.Boards.{is_unit, places_from}
use Rattle.board.proofs.unit_lists.push_places.Given as goal

abbrev pub invariant-loop-place : goal.invariant-loop-place
invariant-loop-place l = l.places.items ++ places_from (is_unit l.chip) l.place (drop l.place l.cells) ≡ l.fn.places.items ++ places_from (is_unit l.chip) 0 l.cells
