use Rattle.std.proofs.Common.{◌≤◌}
use Rattle.jed_text.proofs.DigitLemmas.{IsReadTo}
use Rattle.jed_text.proofs.numbers.number_at.Given as goal

abbrev pub invariant-loop-i : goal.invariant-loop-i
invariant-loop-i l = IsReadTo l.base l.text l.i l.number × (l.i ≤ l.most)
