-- Which cells the fuses of a chip can make.
use Rattle.std.specs.Prelude.{ℕ, ◌≡◌, ◌≤◌, Bool, true, false, not, ◌||◌, ◌&&◌, List, [], ◌∷◌, length, map, filter, if◌then◌else◌, ◌==◌, nat_lt, IsTrue}
use Rattle.std.specs.List.{AllByRecursion}
use Rattle.mig_base.specs.declared.kinds.Kind.{Kind}
use Rattle.mig_base.specs.declared.kinds.Mode.{Mode}
use Rattle.mig_base.specs.declared.kinds.Mode.TheVariants.{Fixed, Simple, Registered}
use Rattle.mig_base.specs.declared.cells.Source.{Source}
use Rattle.mig_base.specs.declared.cells.Source.TheVariants.{Pin, Reg}
use Rattle.mig_base.specs.declared.cells.Lit.{Lit}
use Rattle.mig_base.specs.declared.cells.Row.{Row}
use Rattle.mig_base.specs.declared.cells.Row.TheVariants as row
use Rattle.mig_base.specs.declared.cells.Enable.{Enable}
use Rattle.mig_base.specs.declared.cells.Enable.TheVariants as enable
use Rattle.mig_base.specs.declared.cells.Form.{Form}
use Rattle.mig_base.specs.declared.cells.Form.TheVariants as form
use Rattle.mig_base.specs.declared.cells.Cell.{Cell}
use Rattle.mig_base.specs.declared.cells.ChipCells.{ChipCells}
use Rattle.mig_base.specs.Bools.{same_bool}
use Rattle.mig_base.specs.DeviceTables.{cell_pins, enable_pin, pal_registers, rows_22, is_22, is_v8, is_gal}
use Rattle.mig_base.specs.Cells.{is_among, columns_of}

-- the modes of a kind
abbrev pub has_mode : Kind → Mode → Bool
has_mode kind Fixed = not (is_v8 kind)
has_mode kind _ = is_v8 kind

abbrev pub is_simple : Mode → Bool
is_simple Simple = true
is_simple _ = false

abbrev pub is_registered : Mode → Bool
is_registered Registered = true
is_registered _ = false

abbrev pub is_reg : Form → Bool
is_reg form.Reg = true
is_reg _ = false

-- the pins of the registered cells
abbrev pub registers_in : List Cell → List ℕ
registers_in cells = map (λ cell. cell.pin) (filter (λ cell. is_reg cell.form) cells)

-- the literals of the columns of a chip with these cells
abbrev pub chip_columns : ChipCells → List Lit
chip_columns c = columns_of c.kind c.mode (registers_in c.cells)

abbrev pub same_source : Source → Source → Bool
same_source (Pin p) (Pin q) = p == q
same_source (Reg p) (Reg q) = p == q
same_source _ _ = false

abbrev pub same_lit : Lit → Lit → Bool
same_lit a b = same_source a.source b.source && same_bool a.high b.high

-- the literals are read by columns, the columns rising
abbrev pub rises_in : List Lit → List Lit → Bool
rises_in columns [] = true
rises_in [] (lit ∷ lits) = false
rises_in (column ∷ columns) (lit ∷ lits) = if same_lit lit column then rises_in columns lits else rises_in columns (lit ∷ lits)

-- a product that a row can hold: columns, rising, but not all of them, since a row of zeros is constant 0
abbrev pub fits_row : List Lit → List Lit → Bool
fits_row columns lits = rises_in columns lits && nat_lt (length lits) (length columns)

-- the forms that a macrocell of a kind and mode takes
abbrev pub has_form : Kind → Mode → ℕ → Form → Bool
has_form kind mode pin form.Reg = is_22 kind || (is_registered mode || is_among (pal_registers kind) pin)
has_form kind mode pin _ = not (is_among (pal_registers kind) pin)

-- the inversions of a form: a PAL has no choice, a GAL16V8 or GAL20V8 none of the pin of a register, a 22V10 none of its D
abbrev pub has_inversions : Kind → Form → Bool → Bool → Bool
has_inversions kind form.Idle low pin_low = not low && not pin_low
has_inversions kind form.Comb low pin_low = (is_gal kind || low) && not pin_low
has_inversions kind form.Reg low pin_low = (is_v8 kind || not low) && (is_22 kind || pin_low)

abbrev pub is_never : Enable → Bool
is_never enable.Never = true
is_never _ = false

abbrev pub is_always : Enable → Bool
is_always enable.Always = true
is_always _ = false

abbrev pub is_low_pin : ℕ → Enable → Bool
is_low_pin pin (enable.LowPin p) = p == pin
is_low_pin pin _ = false

-- an enable row that is not constant 0; one without literals is Always
abbrev pub has_enable_row : List Lit → Enable → Bool
has_enable_row columns enable.Always = true
has_enable_row columns (enable.Term []) = false
has_enable_row columns (enable.Term (lit ∷ lits)) = fits_row columns (lit ∷ lits)
has_enable_row columns _ = false

-- the enables of a form
abbrev pub has_enable : Kind → Mode → List Lit → Form → Enable → Bool
has_enable kind mode columns form.Idle e = is_never e
has_enable kind mode columns form.Comb e = if is_simple mode then is_always e else has_enable_row columns e
has_enable kind mode columns form.Reg e = if is_22 kind then is_never e || has_enable_row columns e else is_low_pin (enable_pin kind) e

-- the most terms of a form
abbrev pub most_terms : Kind → Mode → ℕ → Form → ℕ
most_terms kind mode pin form.Idle = 0
most_terms kind mode pin form.Comb = if is_22 kind then (rows_22 pin).1 else (if is_simple mode then 8 else 7)
most_terms kind mode pin form.Reg = if is_22 kind then (rows_22 pin).1 else 8

-- a macrocell that a kind and mode with these columns can have
pub record FitsCell (kind : Kind) (mode : Mode) (columns : List Lit) (cell : Cell) : Type 0 where
  pub form : IsTrue (has_form kind mode cell.pin cell.form)
  pub inversions : IsTrue (has_inversions kind cell.form cell.low cell.pin_low)
  pub enable : IsTrue (has_enable kind mode columns cell.form cell.enable)
  pub count : length cell.terms ≤ most_terms kind mode cell.pin cell.form
  pub terms : AllByRecursion (λ term. IsTrue (fits_row columns term)) cell.terms

-- a reset or preset row, which a 22V10 alone has
abbrev pub fits_control : Kind → List Lit → Row → Bool
fits_control kind columns row.Never = true
fits_control kind columns (row.Product lits) = is_22 kind && fits_row columns lits

-- the cells of a chip that some fuses make
pub record IsWellFormed (c : ChipCells) : Type 0 where
  pub mode : IsTrue (has_mode c.kind c.mode)
  pub pins : map (λ (cell : Cell). cell.pin) c.cells ≡ cell_pins c.kind
  pub cells : AllByRecursion (FitsCell c.kind c.mode (chip_columns c)) c.cells
  pub reset : IsTrue (fits_control c.kind (chip_columns c) c.reset)
  pub preset : IsTrue (fits_control c.kind (chip_columns c) c.preset)
