use Rattle.std.proofs.Common.{◌≡◌, ◌++◌, drop}
use Rattle.mig_base.specs.Boards.{places_from}
use Rattle.settle.specs.Configs.{handed_nets, is_handed}
use Rattle.settle.proofs.config.nets_handed.Given as goal

abbrev pub invariant-loop-net : goal.invariant-loop-net
invariant-loop-net l = l.nets.items ++ places_from (λ w. is_handed w.kind) l.net (drop l.net l.wires) ≡ handed_nets l.circuit
