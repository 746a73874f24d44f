use Rattle.std.proofs.Common.{◌≡◌, ◌++◌, take, string_bytes}
use Rattle.std.specs.Prelude.{codes}
use Rattle.std.specs.List.{flat_map}
use Rattle.answers.proofs.Spaced.{next_node}
use Rattle.answers.proofs.reasons.write_loop.Given as goal

abbrev pub invariant-loop-node : goal.invariant-loop-node
invariant-loop-node l = string_bytes l.text ≡ string_bytes l.fn.text ++ (codes "Loop" ++ flat_map next_node (take l.node-index l.cycle))
