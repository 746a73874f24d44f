use Rattle.std.proofs.Common.{◌≡◌, false, replicate}
use Rattle.reader_lists.proofs.marks.blank.Given as goal

abbrev pub invariant-loop : goal.invariant-loop
invariant-loop l = l.flags.items ≡ replicate l.counter false
