use Rattle.std.proofs.Common.{◌≡◌, take}
use Rattle.std.specs.List.{filter_map}
use Rattle.sim_run.specs.Statements.{slot_level}
use Rattle.sim_run.proofs.levels.inputs.Given as goal

abbrev pub invariant-loop-slot : goal.invariant-loop-slot
invariant-loop-slot l = l.given.items ≡ filter_map (slot_level l.levels) (take l.slot-index l.slots)
