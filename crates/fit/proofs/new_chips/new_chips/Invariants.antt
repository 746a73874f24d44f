use Rattle.std.proofs.Common.{◌≡◌, map, take}
use Rattle.fit.specs.NewChips.{chip_with}
use Rattle.fit.proofs.new_chips.new_chips.Given as goal

abbrev pub invariant-loop-chip : goal.invariant-loop-chip
invariant-loop-chip l = l.made.items ≡ map (chip_with l.placed l.rows) (take l.chip-index l.chips)
