-- Why a wiring and chips make no board.
use Rattle.std.specs.Prelude.{ℕ, ◌≡◌, Bool, false, not, ◌&&◌, ◌==◌, List, map, length, Option, Some, None, slice_get}
use Rattle.std.specs.List.{position}
use Rattle.mig_base.specs.declared.cells.ChipCells.{ChipCells}
use Rattle.mig_base.specs.declared.circuit.Circuit.{Circuit}
use Rattle.mig_base.specs.declared.circuit.Read.{Read}
use Rattle.mig_base.specs.declared.circuit.Read.TheVariants.{OfNet}
use Rattle.mig_base.specs.declared.circuit.Register.{Register}
use Rattle.mig_base.specs.declared.circuit.Wire.{Wire}
use Rattle.mig_base.specs.declared.nets.Net.{Net}
use Rattle.mig_base.specs.declared.nets.Node.{Node}
use Rattle.mig_base.specs.declared.nets.PinName.{PinName}
use Rattle.mig_base.specs.Accepted.{is_fixed}
use Rattle.mig_base.specs.Boards.{circuit}
use Rattle.ranks.specs.FirstLoop.{IsFirstLoop}
use Rattle.mig_base.specs.declared.nets.BoardError.{BoardError}
use Rattle.mig_base.specs.declared.nets.BoardError.TheVariants.{InDriven, DerivedClock, Loop, Memory}
use Rattle.board.specs.NodeNames.{name_by, net_names, register_pins}

-- an Input port or a constant that has a driver
abbrev pub is_driven_input : Wire → Bool
is_driven_input w = is_fixed w.kind && not (length w.drivers == 0)

abbrev pub is_input : Option Wire → Bool
is_input None = false
is_input (Some w) = is_fixed w.kind

-- a register whose clock net is neither an Input port nor a constant
abbrev pub is_derived : Circuit → Register → Bool
is_derived c r = not (is_input (slice_get c.nets r.clock))

-- the first net in node order that is an Input port or a constant and has a driver
abbrev pub first_driven : Circuit → Option ℕ
first_driven c = position is_driven_input c.nets

-- the first register with a derived clock
abbrev pub first_derived : Circuit → Option ℕ
first_derived c = position (is_derived c) c.registers

-- the names are those of the nodes of the reported loop
abbrev pub AreLoopNames : Circuit → (Read → Node) → List Node → Type 0
AreLoopNames c name cycle = (loop : List Read) × IsFirstLoop c loop × (cycle ≡ map name loop)

-- equations are refused, whose nets have these names and whose registers these pins: for the first driven input; with none
-- for the chip of the first register with a derived clock; with neither for the reported loop; or for want of memory
abbrev pub Refuses : Circuit → List Node → List PinName → BoardError → Type 0
Refuses c nets pins (InDriven node) = (n : ℕ) × (first_driven c ≡ Some n) × (node ≡ name_by nets pins (OfNet n))
Refuses c nets pins (DerivedClock chip) =
    (first_driven c ≡ None) × ((k : ℕ) × (pin : PinName) × (first_derived c ≡ Some k) × (slice_get pins k ≡ Some pin) × (chip ≡ pin.chip))
Refuses c nets pins (Loop cycle) = (first_driven c ≡ None) × (first_derived c ≡ None) × AreLoopNames c (name_by nets pins) cycle
Refuses c nets pins Memory = Unit {0}

-- a board is refused for what its equations are refused for
abbrev pub RefusesBoard : Net → List ChipCells → BoardError → Type 0
RefusesBoard net chips e = Refuses (circuit net chips) (net_names net) (register_pins net chips) e
