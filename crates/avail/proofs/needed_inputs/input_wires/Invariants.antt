use Rattle.std.proofs.Common.{◌≡◌, ◌++◌, drop}
use Rattle.std.specs.List.{filter_map}
use Rattle.avail.specs.Needs.{input_wire}
use Rattle.avail.proofs.needed_inputs.input_wires.Given as goal

abbrev pub invariant-loop-pin : goal.invariant-loop-pin
invariant-loop-pin l = l.wires.items ++ filter_map (input_wire l.nets.old.now l.taken) (drop l.pin-index l.pin-items) ≡ filter_map (input_wire l.nets.old.now l.taken) l.pin-items
