use Rattle.std.proofs.Common.{◌≡◌, ◌≤◌, ◌+◌, drop, length, filter}
use Rattle.settle.specs.Configs.{is_handed, handed_count}
use Rattle.settle.proofs.config.count_handed.Given as goal

abbrev pub invariant-loop-wire : goal.invariant-loop-wire
invariant-loop-wire l = record {
  small : l.count ≤ l.wire-index;
  count : l.count + length (filter (λ w. is_handed w.kind) (drop l.wire-index l.circuit.nets)) ≡ handed_count l.circuit;
}
