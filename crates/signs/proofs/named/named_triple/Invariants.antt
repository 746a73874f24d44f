use Rattle.std.proofs.Common.{drop}
use Rattle.mig_base.specs.Among.{Among}
use Rattle.signs.proofs.named.named_triple.Given as goal

abbrev pub invariant-loop-k : goal.invariant-loop-k
invariant-loop-k l = Among l.name (drop l.k l.names)
