use Rattle.std.proofs.Common.{◌≡◌, ◌++◌, map, drop}
use Rattle.std.specs.List.{zip}
use Rattle.board.specs.UnitLists.{unit_on}
use Rattle.board.proofs.unit_lists.named_units.Given as goal

abbrev pub invariant-loop-number : goal.invariant-loop-number
invariant-loop-number l = l.named.items ++ map (unit_on l.net) (zip (drop l.number l.units) (drop l.number l.places)) ≡ map (unit_on l.net) (zip l.units l.places)
