use Rattle.std.proofs.Common.{◌≡◌, take}
use Rattle.fit.proofs.plan_copies.copied_chips.Given as goal

abbrev pub invariant-loop-chip : goal.invariant-loop-chip
invariant-loop-chip l = l.copy.items ≡ take l.chip-index l.chips
