-- A board of two registers of a 22V10 under one reset and one preset: its wiring, its chip and its equations, written out.
use Rattle.std.specs.Prelude.{ℕ, Bool, true, false, List, [], ◌∷◌, replicate, codes}
use Rattle.mig_base.specs.declared.kinds.Kind.TheVariants.{Gal22V10}
use Rattle.mig_base.specs.declared.kinds.Mode.TheVariants.{Fixed}
use Rattle.mig_base.specs.declared.cells.Source.TheVariants.{Pin}
use Rattle.mig_base.specs.declared.cells.Row.TheVariants as row
use Rattle.mig_base.specs.declared.cells.Enable.TheVariants as enable
use Rattle.mig_base.specs.declared.cells.Form.TheVariants.{Reg}
use Rattle.mig_base.specs.declared.cells.Cell.{Cell}
use Rattle.mig_base.specs.declared.cells.ChipCells.{ChipCells}
use Rattle.mig_base.specs.declared.nets.Net.{Net}
use Rattle.mig_base.specs.declared.nets.NetLine.{NetLine}
use Rattle.mig_base.specs.declared.nets.Port.{Port}
use Rattle.mig_base.specs.declared.nets.Port.TheVariants.{Input, Output}
use Rattle.mig_base.specs.declared.nets.Pull.TheVariants.{Free}
use Rattle.mig_base.specs.declared.circuit.Circuit.{Circuit}
use Rattle.mig_base.specs.declared.circuit.Driver.{Driver}
use Rattle.mig_base.specs.declared.circuit.Register.{Register}
use Rattle.mig_base.specs.declared.circuit.Read.TheVariants.{OfNet}
use Rattle.mig_base.specs.declared.circuit.Gate.{Gate}
use Rattle.mig_base.specs.declared.circuit.Gate.TheVariants.{Product}
use Rattle.mig_base.specs.declared.circuit.Gives.TheVariants.{Visible}
use Rattle.mig_base.specs.declared.circuit.NetKind.TheVariants.{Ground, Power, Handed, Inner}
use Rattle.sample_boards.specs.OneGate.{idle_cell, free_wire}

abbrev pub net_line : List ℕ → Port → NetLine
net_line name port = record { name = name; port = port; pull = Free }

-- clock, reset and preset on pins 1, 2 and 3, the outputs on pins 23 and 14
unfoldable pub wiring : Net
wiring = record {
  nets = net_line (codes "CLK") Input ∷ net_line (codes "R") Input ∷ net_line (codes "S") Input ∷ net_line (codes "Y") Output ∷ net_line (codes "N") Output ∷ [];
  chips = record { name = codes "U1"; kind = Gal22V10 } ∷ [];
  pins = record { chip = 0; pin = 1; net = 2 } ∷ record { chip = 0; pin = 2; net = 3 } ∷ record { chip = 0; pin = 3; net = 4 }
      ∷ record { chip = 0; pin = 14; net = 6 } ∷ record { chip = 0; pin = 23; net = 5 } ∷ [];
}

-- an enabled register whose D is 0
abbrev pub register_cell : ℕ → Bool → enable.the_data → Cell
register_cell pin pin_low enabled = record { pin = pin; form = Reg; low = false; pin_low = pin_low; enable = enabled; terms = [] }

-- pin 15 has a register that is never enabled and that nothing reads
unfoldable pub chip : ChipCells
chip = record {
  kind = Gal22V10;
  mode = Fixed;
  cells = register_cell 14 true enable.Always ∷ register_cell 15 true enable.Never ∷ idle_cell 16 ∷ idle_cell 17 ∷ idle_cell 18 ∷ idle_cell 19 ∷ idle_cell 20 ∷ idle_cell 21 ∷ idle_cell 22
      ∷ register_cell 23 false enable.Always ∷ [];
  reset = row.Product (record { source = Pin 2; high = true } ∷ []);
  preset = row.Product (record { source = Pin 3; high = true } ∷ []);
}

abbrev pub on_net : ℕ → Gate
on_net n = Product (record { source = OfNet n; high = true } ∷ [])

abbrev pub shows : ℕ → Bool → Driver
shows place low = record { enable = Product []; gives = Visible place; low = low }

abbrev pub clocked : Register
clocked = record { clock = 2; terms = []; low = false; reset = on_net 3; preset = on_net 4 }

-- the units are pins 14 and 23, and seventeen pins have private nets
unfoldable pub equations : Circuit
equations = record {
  nets = free_wire Ground [] ∷ free_wire Power [] ∷ free_wire (Handed 0) [] ∷ free_wire (Handed 1) [] ∷ free_wire (Handed 2) [] ∷ free_wire Inner (1 ∷ []) ∷ free_wire Inner (0 ∷ [])
      ∷ replicate 17 (free_wire Inner []);
  units = shows 0 true ∷ shows 1 false ∷ [];
  registers = clocked ∷ clocked ∷ [];
  ports = 2 ∷ 3 ∷ 4 ∷ 5 ∷ 6 ∷ [];
}
