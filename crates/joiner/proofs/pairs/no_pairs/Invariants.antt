use Rattle.std.proofs.Common.{◌≡◌, replicate, None}
use Rattle.joiner.proofs.pairs.no_pairs.Given as goal

abbrev pub invariant-loop : goal.invariant-loop
invariant-loop l = l.pairs.items ≡ replicate l.counter None
