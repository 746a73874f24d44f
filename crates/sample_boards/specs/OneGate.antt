-- A board of one gate, Y = NOT (A AND NOT B): its files, its wiring, its chip and its equations, written out.
use Rattle.std.specs.Prelude.{ℕ, Bool, true, false, List, [], ◌∷◌, ◌++◌, replicate, codes}
use Rattle.mig_base.specs.declared.kinds.Kind.TheVariants.{Pal16L8}
use Rattle.mig_base.specs.declared.kinds.Mode.TheVariants.{Fixed}
use Rattle.mig_base.specs.declared.cells.Source.TheVariants.{Pin}
use Rattle.mig_base.specs.declared.cells.Row.TheVariants as row
use Rattle.mig_base.specs.declared.cells.Enable.TheVariants as enable
use Rattle.mig_base.specs.declared.cells.Form.TheVariants.{Idle, Comb}
use Rattle.mig_base.specs.declared.cells.Cell.{Cell}
use Rattle.mig_base.specs.declared.cells.ChipCells.{ChipCells}
use Rattle.mig_base.specs.declared.nets.Net.{Net}
use Rattle.mig_base.specs.declared.nets.Port.TheVariants.{Input, Output}
use Rattle.mig_base.specs.declared.nets.Pull.TheVariants.{Free}
use Rattle.mig_base.specs.declared.circuit.Circuit.{Circuit}
use Rattle.mig_base.specs.declared.circuit.Wire.{Wire}
use Rattle.mig_base.specs.declared.circuit.Read.TheVariants.{OfNet}
use Rattle.mig_base.specs.declared.circuit.Gate.TheVariants.{Product}
use Rattle.mig_base.specs.declared.circuit.Gives.TheVariants.{Sum}
use Rattle.mig_base.specs.declared.circuit.NetKind.{NetKind}
use Rattle.mig_base.specs.declared.circuit.NetKind.TheVariants.{Ground, Power, Handed, Inner}

-- the board file
unfoldable pub board_file : List ℕ
board_file = codes "board 1\nnet A in\nnet B in\nnet Y out\nchip U1 PAL16L8\npin U1 2 A\npin U1 3 B\npin U1 19 Y\nend\n"

-- the fuse file of its chip: pin 19 always enabled, with the term of pin 2 and the complement of pin 3
unfoldable pub fuse_file : List ℕ
fuse_file =
    2 ∷ codes "*\nQF2048*\nF0*\nL0000 11111111111111111111111111111111*\nL0032 01111011111111111111111111111111*\nC07D7*\n"
    ++ 3 ∷ codes "0000\n"

-- the wiring of the board file
unfoldable pub wiring : Net
wiring = record {
  nets = record { name = codes "A"; port = Input; pull = Free } ∷ record { name = codes "B"; port = Input; pull = Free } ∷ record { name = codes "Y"; port = Output; pull = Free } ∷ [];
  chips = record { name = codes "U1"; kind = Pal16L8 } ∷ [];
  pins = record { chip = 0; pin = 2; net = 2 } ∷ record { chip = 0; pin = 3; net = 3 } ∷ record { chip = 0; pin = 19; net = 4 } ∷ [];
}

-- the fuses of the fuse file: two rows are programmed
unfoldable pub fuses : List Bool
fuses = replicate 32 true ++ (false ∷ true ∷ true ∷ true ∷ true ∷ false ∷ []) ++ replicate 26 true ++ replicate 1984 false

abbrev pub idle_cell : ℕ → Cell
idle_cell pin = record { pin = pin; form = Idle; low = false; pin_low = false; enable = enable.Never; terms = [] }

-- the chip that these fuses make
unfoldable pub chip : ChipCells
chip = record {
  kind = Pal16L8;
  mode = Fixed;
  cells = idle_cell 12 ∷ idle_cell 13 ∷ idle_cell 14 ∷ idle_cell 15 ∷ idle_cell 16 ∷ idle_cell 17 ∷ idle_cell 18
      ∷ record { pin = 19; form = Comb; low = true; pin_low = false; enable = enable.Always; terms = (record { source = Pin 2; high = true } ∷ record { source = Pin 3; high = false } ∷ []) ∷ [] } ∷ [];
  reset = row.Never;
  preset = row.Never;
}

abbrev pub free_wire : NetKind → List ℕ → Wire
free_wire kind drivers = record { kind = kind; pull = Free; drivers = drivers }

-- GND, VCC, A, B, Y and fifteen private nets; one unit, which drives Y
unfoldable pub equations : Circuit
equations = record {
  nets = free_wire Ground [] ∷ free_wire Power [] ∷ free_wire (Handed 0) [] ∷ free_wire (Handed 1) [] ∷ free_wire Inner (0 ∷ []) ∷ replicate 15 (free_wire Inner []);
  units = record { enable = Product []; gives = Sum ((record { source = OfNet 2; high = true } ∷ record { source = OfNet 3; high = false } ∷ []) ∷ []); low = true } ∷ [];
  registers = [];
  ports = 2 ∷ 3 ∷ 4 ∷ [];
}
