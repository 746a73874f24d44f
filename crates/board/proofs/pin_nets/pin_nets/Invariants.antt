use Rattle.std.proofs.Common.{◌≡◌}
use Rattle.mig_base.specs.Boards.{net_of}
use Rattle.mig_base.specs.First.{made_from}
use Rattle.board.proofs.ListSteps.{at_place}
use Rattle.board.proofs.pin_nets.pin_nets.Given as goal

abbrev pub invariant-loop-place : goal.invariant-loop-place
invariant-loop-place l = l.nets.items ≡ made_from (λ i. net_of l.numbers (at_place i)) 0 l.place
