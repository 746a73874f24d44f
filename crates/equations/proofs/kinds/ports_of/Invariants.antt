use Rattle.std.proofs.Common.{◌≡◌, ◌+◌, ◌++◌, drop}
use Rattle.mig_base.specs.Boards.{is_port, places_from}
use Rattle.equations.proofs.kinds.ports_of.Given as goal

abbrev pub invariant-loop-place : goal.invariant-loop-place
invariant-loop-place l = l.ports.items ++ places_from is_port (2 + l.place) (drop l.place l.lines) ≡ places_from is_port 2 l.lines
