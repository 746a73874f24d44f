use Rattle.std.proofs.Common.{◌≡◌, take}
use Rattle.mig_base.specs.WellFormed.{registers_in}
use Rattle.devices.proofs.pairs.registers.Given as goal

abbrev pub invariant-loop-cell : goal.invariant-loop-cell
invariant-loop-cell l = l.pins.items ≡ registers_in (take l.cell-index l.cells)
