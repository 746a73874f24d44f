use Rattle.std.proofs.Common.{◌≡◌, [], replicate}
use Rattle.equations.proofs.DriverLemmas.{contents}
use Rattle.equations.proofs.driver_lists.DriverLists.new.Given as goal

abbrev pub invariant-loop : goal.invariant-loop
invariant-loop l = contents l.lists.items ≡ replicate l.counter []
