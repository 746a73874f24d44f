use Rattle.std.proofs.Common.{◌≡◌, ◌++◌, drop}
use Rattle.mig_base.specs.Boards.{places_from}
use Rattle.board.specs.UnitLists.{has_named}
use Rattle.board.proofs.unit_lists.registered.Given as goal

abbrev pub invariant-loop-number : goal.invariant-loop-number
invariant-loop-number l = l.numbers.items ++ places_from has_named l.number (drop l.number l.units) ≡ places_from has_named 0 l.units
