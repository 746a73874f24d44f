use Rattle.std.proofs.Common.{◌≡◌, ◌+◌, drop}
use Rattle.new_board.specs.NewFiles.{number_in}
use Rattle.new_wirings.proofs.new_wires.number_in.Given as goal

abbrev pub invariant-loop-place : goal.invariant-loop-place
invariant-loop-place l = l.place + number_in (drop l.place l.kept) l.net ≡ number_in l.kept l.net
