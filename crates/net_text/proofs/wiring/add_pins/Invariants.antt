use Rattle.std.proofs.Common.{◌≡◌, ◌++◌, ◌+◌, ◌-◌}
use Rattle.mig_base.specs.BoardText.{pins_of_chip}
use Rattle.mig_base.specs.DeviceTables.{pins_of}
use Rattle.net_text.specs.Statements.{all_says}
use Rattle.net_text.proofs.Wirings.{lines_from_pin}
use Rattle.net_text.proofs.wiring.add_pins.Given as goal

abbrev pub invariant-loop-pin : goal.invariant-loop-pin
invariant-loop-pin l = l.wired.items ++ lines_from_pin (all_says l.lines) l.j l.chip l.pin (pins_of l.chip.kind + 1 - l.pin) ≡ l.fn.wired.items ++ pins_of_chip (all_says l.lines) l.j l.chip
