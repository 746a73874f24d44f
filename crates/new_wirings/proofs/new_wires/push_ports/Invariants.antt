use Rattle.std.proofs.Common.{◌≡◌, ◌+◌, ◌++◌, drop}
use Rattle.mig_base.specs.Boards.{is_port, places_from}
use Rattle.new_wirings.proofs.new_wires.push_ports.Given as goal

abbrev pub invariant-loop-place : goal.invariant-loop-place
invariant-loop-place l = l.numbers.items ++ places_from is_port (2 + l.place) (drop l.place l.lines) ≡ l.fn.numbers.items ++ places_from is_port 2 l.lines
