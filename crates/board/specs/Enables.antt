-- The effective enables of a board's units.
use Rattle.std.specs.Prelude.{ℕ, List, [], Option, Some, None, if◌then◌else◌, ◌==◌}
use Rattle.mig_base.specs.declared.cells.Enable.{Enable}
use Rattle.mig_base.specs.declared.cells.Enable.TheVariants as enable
use Rattle.mig_base.specs.declared.circuit.Wire.{Wire}
use Rattle.mig_base.specs.declared.nets.Net.{Net}
use Rattle.mig_base.specs.Boards.{ChipUnit, net_of}

-- a low-active enable pin is Always on GND, Never on VCC, and itself on another net
abbrev pub pin_enable : ℕ → ℕ → Enable
pin_enable n p = if n == 0 then enable.Always else (if n == 1 then enable.Never else enable.LowPin p)

-- the enable of a cell once its chip is on a board
abbrev pub effective_on : Net → ℕ → Enable → Enable
effective_on net chip enable.Always = enable.Always
effective_on net chip enable.Never = enable.Never
effective_on net chip (enable.Term lits) = enable.Term lits
effective_on net chip (enable.LowPin p) = pin_enable (net_of net (chip, p)) p

-- the effective enable of a unit, Never of what is none
abbrev pub effective_of : Net → Option ChipUnit → Enable
effective_of net None = enable.Never
effective_of net (Some u) = effective_on net u.chip u.cell.enable

-- the drivers of a net, none of what is no net
abbrev pub drivers_of : Option Wire → List ℕ
drivers_of None = []
drivers_of (Some w) = w.drivers
