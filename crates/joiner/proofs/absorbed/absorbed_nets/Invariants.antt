use Rattle.std.proofs.Common.{◌≡◌}
use Rattle.std.specs.Prelude.{slice_get}
use Rattle.mig_base.specs.First.{made_from}
use Rattle.board.specs.Enables.{drivers_of}
use Rattle.board.specs.Joined.{equations_of}
use Rattle.joiner.specs.AbsorbedNets.{sole_listed}
use Rattle.joiner.proofs.absorbed.absorbed_nets.Given as goal

abbrev pub invariant-loop-net : goal.invariant-loop-net
invariant-loop-net l = l.nets.items ≡ made_from (λ n. sole_listed l.flags (drivers_of (slice_get (equations_of l.board).nets n))) 0 l.net
