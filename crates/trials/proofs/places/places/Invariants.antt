use Rattle.std.proofs.Common.{◌≡◌, ◌++◌, drop}
use Rattle.trials.specs.Places.{places_among}
use Rattle.trials.proofs.places.places.Given as goal

abbrev pub invariant-loop-name : goal.invariant-loop-name
invariant-loop-name l = l.places.items ++ places_among (drop l.name-index l.names) l.others ≡ places_among l.names l.others
