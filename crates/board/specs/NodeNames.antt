-- The names of a board's nodes.
use Rattle.std.specs.Prelude.{ℕ, List, [], ◌∷◌, ◌++◌, map, Option, Some, None, slice_get, slice_index_or}
use Rattle.mig_base.specs.declared.cells.ChipCells.{ChipCells}
use Rattle.mig_base.specs.declared.circuit.Read.{Read}
use Rattle.mig_base.specs.declared.circuit.Read.TheVariants.{OfNet, OfRegister}
use Rattle.mig_base.specs.declared.nets.Net.{Net}
use Rattle.mig_base.specs.declared.nets.NetLine.{NetLine}
use Rattle.mig_base.specs.declared.nets.Node.{Node}
use Rattle.mig_base.specs.declared.nets.Node.TheVariants.{Gnd, Vcc, Named, Private, Reg}
use Rattle.mig_base.specs.declared.nets.PinName.{PinName}
use Rattle.mig_base.specs.Boards.{At, ChipUnit, at_of, privates, registers_of, units_from}

-- the name of a chip by its number
abbrev pub chip_name : Net → ℕ → List ℕ
chip_name net j = slice_index_or (map (λ l. l.name) net.chips) j []

-- a pin by the name of its chip
abbrev pub pin_name : Net → At → PinName
pin_name net q = record { chip = chip_name net q.0; pin = q.1 }

abbrev pub line_node : NetLine → Node
line_node l = Named l.name

abbrev pub private_node : Net → At → Node
private_node net q = Private (pin_name net q)

-- GND, VCC, the named nets, and the private nets by their pins
abbrev pub net_names : Net → List Node
net_names net = Gnd ∷ Vcc ∷ map line_node net.nets ++ map (private_node net) (privates net)

abbrev pub unit_name : Net → ChipUnit → PinName
unit_name net u = pin_name net (at_of u)

-- the pins of the registers, by name
abbrev pub register_pins : Net → List ChipCells → List PinName
register_pins net chips = map (unit_name net) (registers_of (units_from 0 chips))

abbrev pub register_node : Option PinName → Node
register_node None = Gnd
register_node (Some p) = Reg p

-- the name of a node, where the nets have these names and the registers these pins
abbrev pub name_by : List Node → List PinName → Read → Node
name_by nets pins (OfNet n) = slice_index_or nets n Gnd
name_by nets pins (OfRegister k) = register_node (slice_get pins k)

-- the name of a node
abbrev pub node_name : Net → List ChipCells → Read → Node
node_name net chips v = name_by (net_names net) (register_pins net chips) v
