use Rattle.std.proofs.Common.{◌≡◌, drop}
use Rattle.mig_base.specs.BoardText.{chip_named}
use Rattle.net_text.proofs.judging.find_chip.Given as goal

abbrev pub invariant-loop-line : goal.invariant-loop-line
invariant-loop-line l = chip_named l.name (drop l.line-index l.chips) ≡ chip_named l.name l.chips
