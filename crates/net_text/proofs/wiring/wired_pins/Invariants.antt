use Rattle.std.proofs.Common.{◌≡◌, ◌++◌, drop}
use Rattle.mig_base.specs.BoardText.{pins_in}
use Rattle.net_text.specs.Statements.{all_says}
use Rattle.net_text.proofs.wiring.wired_pins.Given as goal

abbrev pub invariant-loop-j : goal.invariant-loop-j
invariant-loop-j l = l.wired.items ++ pins_in (all_says l.lines) l.j (drop l.j l.chips) ≡ pins_in (all_says l.lines) 0 l.chips
