use Rattle.std.proofs.Common.{◌≡◌, drop}
use Rattle.mig_base.specs.BoardText.{place_named}
use Rattle.text_lines.proofs.Places.{from_index}
use Rattle.trials.proofs.places.place.Given as goal

abbrev pub invariant-loop-k : goal.invariant-loop-k
invariant-loop-k l = from_index l.k (place_named l.name (drop l.k l.others)) ≡ place_named l.name l.others
