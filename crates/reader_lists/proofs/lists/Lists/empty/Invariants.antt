use Rattle.std.proofs.Common.{◌≡◌, [], replicate}
use Rattle.reader_lists.proofs.Putting.{contents}
use Rattle.reader_lists.proofs.lists.Lists.empty.Given as goal

abbrev pub invariant-loop : goal.invariant-loop
invariant-loop l = contents l.lists.items ≡ replicate l.counter []
