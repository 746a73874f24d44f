use Rattle.std.proofs.Common.{◌≡◌}
use Rattle.mig_base.specs.First.{made_from}
use Rattle.joiner.specs.Marked.{needed_at}
use Rattle.joiner.proofs.absorbed.needed_nets.Given as goal

abbrev pub invariant-loop-net : goal.invariant-loop-net
invariant-loop-net l = l.needed.items ≡ made_from (needed_at l.nets l.marks) 0 l.net
