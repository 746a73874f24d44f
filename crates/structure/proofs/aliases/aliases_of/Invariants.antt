use Rattle.std.proofs.Common.{◌≡◌, Some, map, take}
use Rattle.mig_base.specs.Structure.{alias_wire}
use Rattle.structure.proofs.aliases.aliases_of.Given as goal

abbrev pub invariant-loop-wire : goal.invariant-loop-wire
invariant-loop-wire l = l.aliases.items ≡ map (λ w. alias_wire l.circuit (Some w)) (take l.wire-index l.wire-items)
