-- A board of wiring and chips as equations: private nets, units, drivers, effective enables.
use Rattle.std.specs.Prelude.{ℕ, ◌+◌, Bool, true, false, not, ◌||◌, ◌&&◌, List, [], ◌∷◌, ◌++◌, length, map, filter, if◌then◌else◌, ◌==◌, Option, Some, None, is_none}
use Rattle.std.specs.List.{list_any}
use Rattle.mig_base.specs.declared.cells.Source.{Source}
use Rattle.mig_base.specs.declared.cells.Source.TheVariants.{Pin, Reg}
use Rattle.mig_base.specs.declared.cells.Lit.{Lit}
use Rattle.mig_base.specs.declared.cells.Row.TheVariants as row
use Rattle.mig_base.specs.declared.cells.Enable.{Enable}
use Rattle.mig_base.specs.declared.cells.Enable.TheVariants as enable
use Rattle.mig_base.specs.declared.cells.Form.{Form}
use Rattle.mig_base.specs.declared.cells.Form.TheVariants as form
use Rattle.mig_base.specs.declared.cells.Cell.{Cell}
use Rattle.mig_base.specs.declared.cells.ChipCells.{ChipCells}
use Rattle.mig_base.specs.declared.nets.Net.{Net}
use Rattle.mig_base.specs.declared.nets.NetLine.{NetLine}
use Rattle.mig_base.specs.declared.nets.ChipLine.{ChipLine}
use Rattle.mig_base.specs.declared.nets.PinLine.{PinLine}
use Rattle.mig_base.specs.declared.nets.Port.{Port}
use Rattle.mig_base.specs.declared.nets.Port.TheVariants as port
use Rattle.mig_base.specs.DeviceTables.{ordinary_pins, clock_pin, is_22}
use Rattle.mig_base.specs.WellFormed.{is_never, is_reg}
use Rattle.mig_base.specs.declared.nets.Pull.{Pull}
use Rattle.mig_base.specs.declared.nets.Pull.TheVariants as pull
use Rattle.mig_base.specs.declared.circuit.Read.{Read}
use Rattle.mig_base.specs.declared.circuit.Literal.{Literal}
use Rattle.mig_base.specs.declared.circuit.Gate.{Gate}
use Rattle.mig_base.specs.declared.circuit.Driver.{Driver}
use Rattle.mig_base.specs.declared.circuit.Register.{Register}
use Rattle.mig_base.specs.declared.circuit.NetKind.{NetKind}
use Rattle.mig_base.specs.declared.circuit.Wire.{Wire}
use Rattle.mig_base.specs.declared.circuit.Circuit.{Circuit}
use Rattle.mig_base.specs.declared.circuit.Read.TheVariants.{OfNet, OfRegister}
use Rattle.mig_base.specs.declared.circuit.Gate.TheVariants.{Never, Product}
use Rattle.mig_base.specs.declared.circuit.Gives.TheVariants.{Sum, Visible}
use Rattle.mig_base.specs.declared.circuit.NetKind.TheVariants.{Ground, Power, Handed, Shared, Inner}

-- a pin of a chip, by numbers
abbrev pub At : Type 0
At = ℕ × ℕ

abbrev pub same_at : At → At → Bool
same_at a b = (a.0 == b.0) && (a.1 == b.1)

-- the place of the first such pin
abbrev pub place_of : At → List At → ℕ
place_of q [] = 0
place_of q (a ∷ rest) = if same_at q a then 0 else place_of q rest + 1

-- the net of the line of a pin
abbrev pub line_at : List PinLine → At → Option ℕ
line_at [] q = None
line_at (l ∷ ls) q = if same_at q (l.chip, l.pin) then Some l.net else line_at ls q

-- every pin but ground and power, by chip and pin
abbrev pub pins_from : ℕ → List ChipLine → List At
pins_from j [] = []
pins_from j (c ∷ cs) = map (λ p. (j, p)) (ordinary_pins c.kind) ++ pins_from (j + 1) cs

-- the pins that have a private net
abbrev pub privates : Net → List At
privates net = filter (λ q. is_none (line_at net.pins q)) (pins_from 0 net.chips)

abbrev pub or_private : ℕ → List At → At → Option ℕ → ℕ
or_private named privates q (Some n) = n
or_private named privates q None = 2 + named + place_of q privates

-- the net of a pin: that of its line, else its private one, numbered after the named nets
abbrev pub net_of : Net → At → ℕ
net_of net q = or_private (length net.nets) (privates net) q (line_at net.pins q)

-- a cell that is a unit of a board, with its chip
pub record ChipUnit : Type 0 where
  pub chip : ℕ
  pub cells : ChipCells
  pub cell : Cell

abbrev pub is_register_at : ℕ → Source → Bool
is_register_at pin (Reg p) = p == pin
is_register_at pin (Pin p) = false

abbrev pub reads_register : ℕ → Lit → Bool
reads_register pin lit = is_register_at pin lit.source

abbrev pub in_row : ℕ → row.the_data → Bool
in_row pin row.Never = false
in_row pin (row.Product lits) = list_any (reads_register pin) lits

abbrev pub in_enable : ℕ → Enable → Bool
in_enable pin (enable.Term lits) = list_any (reads_register pin) lits
in_enable pin _ = false

abbrev pub in_cell : ℕ → Cell → Bool
in_cell pin cell = in_enable pin cell.enable || list_any (λ lits. list_any (reads_register pin) lits) cell.terms

-- a registered 22V10 cell that can change no pin, and that nothing reads
abbrev pub is_mute : ChipCells → Cell → Bool
is_mute c cell = is_22 c.kind && is_never cell.enable
    && not (list_any (in_cell cell.pin) c.cells || in_row cell.pin c.reset || in_row cell.pin c.preset)

abbrev pub makes_unit : Bool → Form → Bool
makes_unit mute form.Idle = false
makes_unit mute form.Comb = true
makes_unit mute form.Reg = not mute

-- a cell that is neither Idle nor mute
abbrev pub is_unit : ChipCells → Cell → Bool
is_unit c cell = makes_unit (is_mute c cell) cell.form

abbrev pub is_registered : ChipUnit → Bool
is_registered u = is_reg u.cell.form

abbrev pub units_from : ℕ → List ChipCells → List ChipUnit
units_from j [] = []
units_from j (c ∷ cs) = map (λ cell. record { chip = j; cells = c; cell = cell }) (filter (is_unit c) c.cells) ++ units_from (j + 1) cs

abbrev pub registers_of : List ChipUnit → List ChipUnit
registers_of units = filter is_registered units

abbrev pub at_of : ChipUnit → At
at_of u = (u.chip, u.cell.pin)

-- a source of a chip on its board
abbrev pub read_of : Net → List ChipUnit → ℕ → Source → Read
read_of net units chip (Pin p) = OfNet (net_of net (chip, p))
read_of net units chip (Reg p) = OfRegister (place_of (chip, p) (map at_of (registers_of units)))

abbrev pub literals_of : Net → List ChipUnit → ℕ → List Lit → List Literal
literals_of net units chip lits = map (λ lit. record { source = read_of net units chip lit.source; high = lit.high }) lits

abbrev pub row_on : Net → List ChipUnit → ℕ → row.the_data → Gate
row_on net units chip row.Never = Never
row_on net units chip (row.Product lits) = Product (literals_of net units chip lits)

-- a low-active enable pin on GND is Always, on VCC Never, on another net the product of its complement
abbrev pub low_pin : ℕ → Gate
low_pin n = if n == 0 then Product [] else (if n == 1 then Never else Product (record { source = OfNet n; high = false } ∷ []))

abbrev pub enable_on : Net → List ChipUnit → ℕ → Enable → Gate
enable_on net units chip enable.Always = Product []
enable_on net units chip enable.Never = Never
enable_on net units chip (enable.Term lits) = Product (literals_of net units chip lits)
enable_on net units chip (enable.LowPin p) = low_pin (net_of net (chip, p))

abbrev pub driver_of : Net → List ChipUnit → ChipUnit → Driver
driver_of net units u = record {
  enable = enable_on net units u.chip u.cell.enable;
  gives = (if is_registered u then Visible (place_of (at_of u) (map at_of (registers_of units))) else Sum (map (literals_of net units u.chip) u.cell.terms));
  low = (if is_registered u then u.cell.pin_low else u.cell.low);
}

abbrev pub register_of : Net → List ChipUnit → ChipUnit → Register
register_of net units u = record {
  clock = net_of net (u.chip, clock_pin u.cells.kind);
  terms = map (literals_of net units u.chip) u.cell.terms;
  low = u.cell.low;
  reset = row_on net units u.chip u.cells.reset;
  preset = row_on net units u.chip u.cells.preset;
}

abbrev pub can_drive : Gate → Bool
can_drive Never = false
can_drive (Product lits) = true

-- a unit on this net whose effective enable is not Never
abbrev pub drives : Net → List ChipUnit → ℕ → ChipUnit → Bool
drives net units n u = (net_of net (at_of u) == n) && can_drive (driver_of net units u).enable

-- the places of those that pass
abbrev pub places_from : {T : Type 0} → (T → Bool) → ℕ → List T → List ℕ
places_from test i [] = []
places_from test i (x ∷ xs) = (if test x then i ∷ [] else []) ++ places_from test (i + 1) xs

-- the kind of a net by its direction, where the next handed level has this place
abbrev pub kind_at : ℕ → Port → NetKind
kind_at place port.Inner = Inner
kind_at place port.Output = Inner
kind_at place port.Input = Handed place
kind_at place port.Both = Shared place

-- an Input or Both port, which is handed a level
abbrev pub is_handed : Port → Bool
is_handed port.Input = true
is_handed port.Both = true
is_handed _ = false

-- the named nets, where handed levels are counted from this place
abbrev pub kinds_from : ℕ → List NetLine → List (NetKind × Pull)
kinds_from place [] = []
kinds_from place (l ∷ ls) = (kind_at place l.port, l.pull) ∷ kinds_from (if is_handed l.port then place + 1 else place) ls

-- GND, VCC, the named nets, the private nets
abbrev pub kinds_of : Net → List (NetKind × Pull)
kinds_of net = (Ground, pull.Free) ∷ (Power, pull.Free) ∷ kinds_from 0 net.nets ++ map (λ q. (Inner, pull.Free)) (privates net)

abbrev pub wires_from : Net → List ChipUnit → ℕ → List (NetKind × Pull) → List Wire
wires_from net units n [] = []
wires_from net units n (k ∷ ks) = record { kind = k.0; pull = k.1; drivers = places_from (drives net units n) 0 units } ∷ wires_from net units (n + 1) ks

abbrev pub is_port_kind : Port → Bool
is_port_kind port.Inner = false
is_port_kind _ = true

abbrev pub is_port : NetLine → Bool
is_port l = is_port_kind l.port

-- the board of this wiring and these units
abbrev pub circuit_on : Net → List ChipUnit → Circuit
circuit_on net units = record {
  nets = wires_from net units 0 (kinds_of net);
  units = map (driver_of net units) units;
  registers = map (register_of net units) (registers_of units);
  ports = places_from is_port 2 net.nets;
}

-- the board of this wiring and these chips
abbrev pub circuit : Net → List ChipCells → Circuit
circuit net chips = circuit_on net (units_from 0 chips)
