use Rattle.std.proofs.Common.{◌≡◌, drop, map}
use Rattle.mig_base.specs.BoardText.{place_named}
use Rattle.text_lines.proofs.Places.{from_index}
use Rattle.net_text.proofs.judging.index_of.Given as goal

abbrev pub invariant-loop-k : goal.invariant-loop-k
invariant-loop-k l = from_index l.k (place_named l.name (drop l.k (map (λ m. m.name) l.nets))) ≡ place_named l.name (map (λ m. m.name) l.nets)
