use Rattle.std.proofs.Common.{◌≡◌, drop}
use Rattle.new_board.specs.InputPins.{input_at}
use Rattle.avail.proofs.taking.input_at.Given as goal

abbrev pub invariant-loop-variable : goal.invariant-loop-variable
invariant-loop-variable l = input_at (drop l.variable-index l.taken) l.pin ≡ input_at l.taken l.pin
