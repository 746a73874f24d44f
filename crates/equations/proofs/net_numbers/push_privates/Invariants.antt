use Rattle.std.proofs.Common.{◌≡◌, ◌-◌, ◌++◌}
use Rattle.mig_base.specs.DeviceTables.{pins_of}
use Rattle.equations.proofs.PrivatePins.{rest}
use Rattle.equations.proofs.net_numbers.push_privates.Given as goal

abbrev pub invariant-loop-pin : goal.invariant-loop-pin
invariant-loop-pin l = l.privates.items ++ rest l.lines.pins l.chip l.kind l.pin (l.pin-end - l.pin) ≡ l.fn.privates.items ++ rest l.lines.pins l.chip l.kind 1 (pins_of l.kind)
