use Rattle.std.proofs.Common.{◌≡◌, ◌-◌, ◌++◌, drop}
use Rattle.std.specs.Prelude.{slice_get}
use Rattle.std.specs.List.{filter_map}
use Rattle.new_wirings.proofs.new_wires.new_nets.Given as goal

abbrev pub invariant-loop-number : goal.invariant-loop-number
invariant-loop-number l = l.lines.items ++ filter_map (λ n. slice_get l.nets (n - 2)) (drop l.number-index l.kept) ≡ filter_map (λ n. slice_get l.nets (n - 2)) l.kept
