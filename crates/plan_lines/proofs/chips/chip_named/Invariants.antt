use Rattle.std.proofs.Common.{◌≡◌, drop}
use Rattle.plans.specs.Placings.{chip_named}
use Rattle.plan_lines.proofs.chips.chip_named.Given as goal

abbrev pub invariant-loop-chip : goal.invariant-loop-chip
invariant-loop-chip l = chip_named (drop l.chip-index l.chips) l.name ≡ chip_named l.chips l.name
