-- The cells that the fuses of a chip make: the forms of its macrocells, their enables and product terms.
use Rattle.std.specs.Prelude.{ℕ, ◌≡◌, ◌+◌, ◌-◌, ◌*◌, Bool, true, false, not, ◌||◌, List, [], ◌∷◌, take, drop, length, map, filter, if◌then◌else◌, ◌==◌, Option, Some, None, Result, Ok, Err, slice_index_or}
use Rattle.std.specs.List.{list_any, list_all, filter_map}
use Rattle.mig_base.specs.declared.kinds.Kind.{Kind}
use Rattle.mig_base.specs.declared.kinds.Mode.{Mode}
use Rattle.mig_base.specs.declared.kinds.Mode.TheVariants.{Fixed, Simple, Complex, Registered}
use Rattle.mig_base.specs.declared.cells.Source.TheVariants.{Pin, Reg}
use Rattle.mig_base.specs.declared.cells.Lit.{Lit}
use Rattle.mig_base.specs.declared.cells.Row.{Row}
use Rattle.mig_base.specs.declared.cells.Row.TheVariants as row
use Rattle.mig_base.specs.declared.cells.Enable.{Enable}
use Rattle.mig_base.specs.declared.cells.Enable.TheVariants as enable
use Rattle.mig_base.specs.declared.cells.Form.TheVariants as form
use Rattle.mig_base.specs.declared.cells.Cell.{Cell}
use Rattle.mig_base.specs.declared.cells.ChipCells.{ChipCells}
use Rattle.mig_base.specs.declared.cells.ChipError.{ChipError}
use Rattle.mig_base.specs.declared.cells.ChipError.TheVariants.{Count, ModeBits, Ac1InComplex, Memory}
use Rattle.mig_base.specs.First.{made_from, or_else, unless}
use Rattle.mig_base.specs.DeviceTables.{pair_pins, cell_pins, top_pin, array_width, enable_pin, has_count, pal_registers, even_reads_q, rows_22, is_22, is_v8}

-- the columns of one row, by its place in an array of this width
abbrev pub row_at : ℕ → List Bool → ℕ → List Bool
row_at width bits r = take width (drop (width * r) bits)

abbrev pub is_among : List ℕ → ℕ → Bool
is_among pins pin = list_any (λ p. p == pin) pins

-- what a column of the pair of a pin reads: the pin's level or its complement, or Q or NOT Q of a registered cell
abbrev pub lit_of : Bool → List ℕ → ℕ → Bool → Lit
lit_of even_q registers pin even = if is_among registers pin
    then record { source = Reg pin; high = if even_q then even else not even }
    else record { source = Pin pin; high = even }

-- the literals that the columns read, two for each pin, the even one first
abbrev pub pair_columns : Bool → List ℕ → List ℕ → List Lit
pair_columns even_q registers [] = []
pair_columns even_q registers (pin ∷ pins) = lit_of even_q registers pin true ∷ lit_of even_q registers pin false ∷ pair_columns even_q registers pins

-- the literals of a chip's columns, where these pins are registered
abbrev pub columns_of : Kind → Mode → List ℕ → List Lit
columns_of kind mode registers = pair_columns (even_reads_q kind) registers (pair_pins kind mode)

-- the columns whose fuses are 0
abbrev pub lits_of : List Lit → List Bool → List Lit
lits_of [] bits = []
lits_of (column ∷ columns) [] = []
lits_of (column ∷ columns) (bit ∷ bits) = if bit then lits_of columns bits else column ∷ lits_of columns bits

-- constant 0 where all fuses are 0, else the product of the literals whose fuses are 0
abbrev pub row_of : List Lit → List Bool → Row
row_of columns bits = if list_all not bits then row.Never else row.Product (lits_of columns bits)

abbrev pub term_of : Row → Option (List Lit)
term_of row.Never = None
term_of (row.Product lits) = Some lits

-- constant 0 rows are no terms
abbrev pub terms_of : List Row → List (List Lit)
terms_of rows = filter_map term_of rows

abbrev pub enable_of : Row → Enable
enable_of row.Never = enable.Never
enable_of (row.Product []) = enable.Always
enable_of (row.Product (lit ∷ lits)) = enable.Term (lit ∷ lits)

abbrev pub idle : ℕ → Cell
idle pin = record { pin = pin; form = form.Idle; low = false; pin_low = false; enable = enable.Never; terms = [] }

-- a combinational cell by its enable row; Idle where that is constant 0
abbrev pub comb_by : ℕ → Bool → Row → List Row → Cell
comb_by pin low row.Never rows = idle pin
comb_by pin low (row.Product lits) rows = record { pin = pin; form = form.Comb; low = low; pin_low = false; enable = enable_of (row.Product lits); terms = terms_of rows }

-- a combinational cell by its rows, of which the first is its enable
abbrev pub comb_cell : ℕ → Bool → List Row → Cell
comb_cell pin low [] = idle pin
comb_cell pin low (first ∷ rows) = comb_by pin low first rows

-- an output that is always enabled
abbrev pub output_cell : ℕ → Bool → List Row → Cell
output_cell pin low rows = record { pin = pin; form = form.Comb; low = low; pin_low = false; enable = enable.Always; terms = terms_of rows }

-- a registered cell that the chip's enable pin enables; D is the sum or its complement, the pin NOT Q
abbrev pub reg_cell : ℕ → Bool → ℕ → List Row → Cell
reg_cell pin low enable_pin rows = record { pin = pin; form = form.Reg; low = low; pin_low = true; enable = enable.LowPin enable_pin; terms = terms_of rows }

-- the place of a macrocell in its array, from its first rows on, on every chip but a 22V10
abbrev pub cell_place : Kind → ℕ → ℕ
cell_place kind pin = top_pin kind - pin

-- PAL16 and PAL20

abbrev pub pal_row : Kind → List Bool → ℕ → Row
pal_row kind bits r = row_of (columns_of kind Fixed (pal_registers kind)) (row_at (array_width kind) bits r)

abbrev pub pal_rows : Kind → List Bool → ℕ → List Row
pal_rows kind bits pin = made_from (pal_row kind bits) (8 * cell_place kind pin) 8

abbrev pub pal_cell : Kind → List Bool → ℕ → Cell
pal_cell kind bits pin =
    if is_among (pal_registers kind) pin
    then reg_cell pin false (enable_pin kind) (pal_rows kind bits pin)
    else comb_cell pin true (pal_rows kind bits pin)

abbrev pub pal_cells : Kind → List Bool → ChipCells
pal_cells kind bits = record { kind = kind; mode = Fixed; cells = map (pal_cell kind bits) (cell_pins kind); reset = row.Never; preset = row.Never }

-- GAL16V8 and GAL20V8: after the array stand XOR (8), the signature (64), AC1 (8), the disable bits (64), SYN and AC0

abbrev pub bit_at : List Bool → ℕ → Bool
bit_at bits n = slice_index_or bits n false

abbrev pub array_size : Kind → ℕ
array_size kind = 64 * array_width kind

abbrev pub xor_at : Kind → List Bool → ℕ → Bool
xor_at kind bits pin = bit_at bits (array_size kind + cell_place kind pin)

abbrev pub ac1_at : Kind → List Bool → ℕ → Bool
ac1_at kind bits pin = bit_at bits (array_size kind + 72 + cell_place kind pin)

abbrev pub syn : Kind → List Bool → Bool
syn kind bits = bit_at bits (array_size kind + 144)

abbrev pub ac0 : Kind → List Bool → Bool
ac0 kind bits = bit_at bits (array_size kind + 145)

-- SYN 1 with AC0 0 is simple, with AC0 1 complex, SYN 0 with AC0 1 registered
abbrev pub v8_mode : Bool → Bool → Option Mode
v8_mode true false = Some Simple
v8_mode true true = Some Complex
v8_mode false true = Some Registered
v8_mode false false = None

-- the registered pins: in registered mode those with AC1 0
abbrev pub v8_registers : Kind → Mode → List Bool → List ℕ
v8_registers kind Registered bits = filter (λ pin. not (ac1_at kind bits pin)) (cell_pins kind)
v8_registers kind _ bits = []

-- a row is constant 0 too where its disable bit is 0
abbrev pub v8_row : Kind → Mode → List Bool → ℕ → Row
v8_row kind mode bits r =
    if bit_at bits (array_size kind + 80 + r)
    then row_of (columns_of kind mode (v8_registers kind mode bits)) (row_at (array_width kind) bits r)
    else row.Never

abbrev pub v8_rows : Kind → Mode → List Bool → ℕ → List Row
v8_rows kind mode bits pin = made_from (v8_row kind mode bits) (8 * cell_place kind pin) 8

-- a macrocell by its AC1, its XOR and its rows
abbrev pub v8_cell_of : Kind → Mode → Bool → Bool → ℕ → List Row → Cell
v8_cell_of kind Simple true xor pin rows = idle pin
v8_cell_of kind Simple false xor pin rows = output_cell pin (not xor) rows
v8_cell_of kind Complex true xor pin rows = comb_cell pin (not xor) rows
v8_cell_of kind Complex false xor pin rows = idle pin
v8_cell_of kind mode true xor pin rows = comb_cell pin (not xor) rows
v8_cell_of kind mode false xor pin rows = reg_cell pin xor (enable_pin kind) rows

abbrev pub v8_cell : Kind → Mode → List Bool → ℕ → Cell
v8_cell kind mode bits pin = v8_cell_of kind mode (ac1_at kind bits pin) (xor_at kind bits pin) pin (v8_rows kind mode bits pin)

-- in complex mode AC1 0 stands only on a cell whose rows have no 1
abbrev pub is_bad_complex : Kind → List Bool → ℕ → Bool
is_bad_complex kind bits pin =
    not (ac1_at kind bits pin || list_all not (take (8 * array_width kind) (drop (8 * array_width kind * cell_place kind pin) bits)))

-- the first such cell in row order
abbrev pub complex_refusal : Kind → List Bool → List ℕ → Option ChipError
complex_refusal kind bits [] = None
complex_refusal kind bits (pin ∷ pins) =
    or_else (if is_bad_complex kind bits pin then Some (Ac1InComplex pin) else None) (complex_refusal kind bits pins)

abbrev pub v8_refusal : Kind → List Bool → Mode → Option ChipError
v8_refusal kind bits Complex = complex_refusal kind bits (made_from (λ k. top_pin kind - k) 0 8)
v8_refusal kind bits mode = None

abbrev pub v8_cells_in : Kind → List Bool → Option Mode → Result ChipCells ChipError
v8_cells_in kind bits None = Err ModeBits
v8_cells_in kind bits (Some mode) = unless (v8_refusal kind bits mode)
    (Ok (record { kind = kind; mode = mode; cells = map (v8_cell kind mode bits) (cell_pins kind); reset = row.Never; preset = row.Never }))

-- GAL22V10: row 0 is the asynchronous reset, row 131 the synchronous preset; S0 and S1 of pin 23 stand at 5808, then those of pin 22, and so on

abbrev pub s0_at : List Bool → ℕ → Bool
s0_at bits pin = bit_at bits (5808 + 2 * (23 - pin))

abbrev pub s1_at : List Bool → ℕ → Bool
s1_at bits pin = bit_at bits (5809 + 2 * (23 - pin))

-- the registered pins: those with S1 0
abbrev pub registers_22 : Kind → List Bool → List ℕ
registers_22 kind bits = filter (λ pin. not (s1_at bits pin)) (cell_pins kind)

abbrev pub row_22 : Kind → List Bool → ℕ → Row
row_22 kind bits r = row_of (columns_of kind Fixed (registers_22 kind bits)) (row_at 44 bits r)

-- a registered cell with an enable row of its own; the pin is NOT Q or Q
abbrev pub reg_cell_22 : ℕ → Bool → List Row → Cell
reg_cell_22 pin pin_low [] = idle pin
reg_cell_22 pin pin_low (first ∷ rows) = record { pin = pin; form = form.Reg; low = false; pin_low = pin_low; enable = enable_of first; terms = terms_of rows }

abbrev pub cell_22 : Kind → List Bool → ℕ → Cell
cell_22 kind bits pin =
    if s1_at bits pin
    then comb_cell pin (not (s0_at bits pin)) (made_from (row_22 kind bits) (rows_22 pin).0 ((rows_22 pin).1 + 1))
    else reg_cell_22 pin (not (s0_at bits pin)) (made_from (row_22 kind bits) (rows_22 pin).0 ((rows_22 pin).1 + 1))

abbrev pub cells_22 : Kind → List Bool → ChipCells
cells_22 kind bits = record { kind = kind; mode = Fixed; cells = map (cell_22 kind bits) (cell_pins kind); reset = row_22 kind bits 0; preset = row_22 kind bits 131 }

-- of a right fuse count
abbrev pub cells_by_kind : Kind → List Bool → Result ChipCells ChipError
cells_by_kind kind bits =
    if is_22 kind then Ok (cells_22 kind bits)
    else (if is_v8 kind then v8_cells_in kind bits (v8_mode (syn kind bits) (ac0 kind bits)) else Ok (pal_cells kind bits))

-- the cells of a chip of this kind with these fuses, or the first refusal
abbrev pub cells_of : Kind → List Bool → Result ChipCells ChipError
cells_of kind bits = if has_count kind (length bits) then cells_by_kind kind bits else Err (Count (length bits))

-- a reader's answer: what it should be, or want of memory
abbrev pub AnswersCells : Result ChipCells ChipError → Result ChipCells ChipError → Type 0
AnswersCells (Ok cells) told = told ≡ Ok cells
AnswersCells (Err Memory) told = Unit {0}
AnswersCells (Err e) told = told ≡ Err e
