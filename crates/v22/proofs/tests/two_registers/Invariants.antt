use Rattle.std.proofs.Common.{◌≡◌, ◌-◌}
use Rattle.v22.proofs.Registers.{idle_cells}
use Rattle.v22.proofs.tests.two_registers.Given as goal

abbrev pub invariant-loop-pin : goal.invariant-loop-pin
invariant-loop-pin l = l.cells.items ≡ idle_cells (l.pin - 15)
