use Rattle.std.proofs.Common.{◌≡◌, [], replicate}
use Rattle.ranks.proofs.Putting.{contents}
use Rattle.ranks.proofs.lists.Lists.empty.Given as goal

abbrev pub invariant-loop : goal.invariant-loop
invariant-loop l = contents l.lists.items ≡ replicate l.counter []
