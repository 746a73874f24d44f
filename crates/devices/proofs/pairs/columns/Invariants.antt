use Rattle.std.proofs.Common.{◌≡◌, take}
use Rattle.mig_base.specs.Cells.{pair_columns}
use Rattle.devices.proofs.pairs.columns.Given as goal

abbrev pub invariant-loop-pin : goal.invariant-loop-pin
invariant-loop-pin l = l.columns.items ≡ pair_columns l.even_q l.registers (take l.pin-index l.pins)
