use Rattle.std.proofs.Common.{◌≡◌, drop, map}
use Rattle.mig_base.specs.BoardText.{place_named}
use Rattle.text_lines.proofs.Places.{from_index}
use Rattle.sim_run.proofs.naming.place.Given as goal

abbrev pub invariant-loop-k : goal.invariant-loop-k
invariant-loop-k l = from_index l.k (place_named l.name (drop l.k (map (λ w. w.now) l.names))) ≡ place_named l.name (map (λ w. w.now) l.names)
