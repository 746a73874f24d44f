-- The cells that fuses make are well formed, of each of the twelve kinds.
use Rattle.std.proofs.Common.{ℕ, suc, ◌≡◌, ◌+◌, ◌*◌, ◌≤◌, Bool, true, false, not, ◌||◌, ◌&&◌, if◌then◌else◌, filter, List, [], ◌∷◌, length, refl, sym, ap, ◌∙◌, subst, arith, IsTrue, Result, Ok, Err, Option, Some, None}
use Rattle.std.specs.List.{AllByRecursion}
use Rattle.std.proofs.Math.Bool.{or-true}
use Rattle.mig_base.specs.declared.kinds.Kind.{Kind}
use Rattle.mig_base.specs.declared.kinds.Kind.TheVariants.{Gal16V8, Gal20V8, Gal22V10, Gal22V10Q}
use Rattle.mig_base.specs.declared.kinds.Mode.{Mode}
use Rattle.mig_base.specs.declared.kinds.Mode.TheVariants.{Fixed, Simple, Complex, Registered}
use Rattle.mig_base.specs.declared.cells.Lit.{Lit}
use Rattle.mig_base.specs.declared.cells.Row.{Row}
use Rattle.mig_base.specs.declared.cells.Row.TheVariants as row
use Rattle.mig_base.specs.declared.cells.Form.TheVariants as form
use Rattle.mig_base.specs.declared.cells.Cell.{Cell}
use Rattle.mig_base.specs.declared.cells.ChipCells.{ChipCells}
use Rattle.mig_base.specs.declared.cells.ChipError.{ChipError}
use Rattle.mig_base.specs.declared.cells.ChipError.TheVariants.{Count}
use Rattle.mig_base.specs.declared.nets.ChipLine.{ChipLine}
use Rattle.mig_base.specs.First.{made_from, unless}
use Rattle.mig_base.specs.DeviceTables.{pair_pins, cell_pins, array_width, enable_pin, has_count, rows_22, pal_registers, even_reads_q, is_22, is_v8, is_pal, is_gal}
use Rattle.mig_base.specs.Cells as cells
use Rattle.mig_base.specs.Cells.{is_among}
use Rattle.mig_base.specs.Given.{IsMade}
use Rattle.mig_base.specs.WellFormed.{has_mode, is_reg, is_registered, most_terms, FitsCell, IsWellFormed, fits_row, fits_control}
use Rattle.mig_base.proofs.ListLaws.{length-made_from}
use Rattle.devices.proofs.RowLaws.{FitsColumns, distinct_pins, columns-distinct, length-columns}
use Rattle.devices.proofs.MacrocellLaws.{IsV8Table, v8-table, v8-width, v8-distinct}
use Rattle.devices.proofs.V22Tables.{IsV22Table, v22-table, v22-width, v22-distinct}
use Rattle.made_cells.proofs.CellsFit.{all-made, array-row-fits, idle-fits, TakesOutput, comb-fits, output-fits, register-fits, register-row-fits, comb-pin, comb-form, chip_of, chip-well}

all-false : {T : Type 0} (xs : List T) → filter (λ (x : T). false) xs ≡ []
all-false [] = refl
all-false (x ∷ xs) = all-false xs

-- PAL16 and PAL20

-- what the tables of a PAL hold
record IsPal (k : Kind) : Type 0 where
  mode : IsTrue (has_mode k Fixed)
  not_22 : is_22 k ≡ false
  most : (pin : ℕ) → most_terms k Fixed pin form.Comb ≡ 7
  distinct : distinct_pins (pair_pins k Fixed) ≡ true
  wide : 2 * length (pair_pins k Fixed) ≡ array_width k
  registers : pal_registers k ≡ filter (is_among (pal_registers k)) (cell_pins k)

pal-is : (k : Kind) → IsTrue (is_pal k) → IsPal k
pal-is Gal16V8 h = cc
pal-is Gal20V8 h = cc
pal-is Gal22V10 h = cc
pal-is Gal22V10Q h = cc
pal-is _ h = record { mode = refl; not_22 = refl; most = λ pin. refl; distinct = refl; wide = refl; registers = refl }

abbrev pal_cell_by : Kind → ℕ → Bool → List Row → Cell
pal_cell_by k pin b rows = if b then cells.reg_cell pin false (enable_pin k) rows else cells.comb_cell pin true rows

pal-pin : (k : Kind) (pin : ℕ) (b : Bool) (rows : List Row) → (pal_cell_by k pin b rows).pin ≡ pin
pal-pin k pin true rows = refl
pal-pin k pin false rows = comb-pin pin true rows

pal-form : (k : Kind) (pin : ℕ) (b : Bool) (rows : List Row) → is_reg (pal_cell_by k pin b rows).form ≡ b
pal-form k pin true rows = refl
pal-form k pin false rows = comb-form pin true rows

pal-fits : (k : Kind) (columns : List Lit) (pin : ℕ) (b : Bool) (rows : List Row) → IsPal k → is_among (pal_registers k) pin ≡ b →
    AllByRecursion (FitsColumns columns) rows → length rows ≤ 8 → FitsCell k Fixed columns (pal_cell_by k pin b rows)
pal-fits k columns pin true rows t e f room = register-fits k Fixed columns pin false rows (record { form = e; inversion = or-true (is_v8 k); not_22 = t.not_22 }) f room
pal-fits k columns pin false rows t e f room =
    comb-fits k Fixed columns pin true rows 7 (record { not_register = ap not e; inversion = or-true (is_gal k); most = t.most pin }) refl f room

pub pal-well : (k : Kind) → IsTrue (is_pal k) → (bits : List Bool) → IsWellFormed (cells.pal_cells k bits)
pal-well k h bits =
    let t = pal-is k h in
    let columns = cells.columns_of k Fixed (pal_registers k) in
    let wide : length columns ≡ array_width k = length-columns (even_reads_q k) (pal_registers k) (pair_pins k Fixed) ∙ t.wide in
    let rows : (pin : ℕ) → AllByRecursion (FitsColumns columns) (cells.pal_rows k bits pin) = λ pin.
    all-made (FitsColumns columns) (cells.pal_row k bits) (8 * cells.cell_place k pin) 8
    (λ r. array-row-fits columns (array_width k) bits r (columns-distinct (even_reads_q k) (pal_registers k) (pair_pins k Fixed) t.distinct) wide) in
    chip-well k Fixed columns (is_among (pal_registers k)) (cells.pal_cell k bits) row.Never row.Never
    (record {
      mode = t.mode;
      read = ap (cells.columns_of k Fixed) t.registers;
      pin = λ pin. pal-pin k pin (is_among (pal_registers k) pin) (cells.pal_rows k bits pin);
      form = λ pin. pal-form k pin (is_among (pal_registers k) pin) (cells.pal_rows k bits pin);
      fits = λ pin. pal-fits k columns pin (is_among (pal_registers k) pin) (cells.pal_rows k bits pin) t refl (rows pin) (omega arith);
    }) refl refl

-- GAL16V8 and GAL20V8

v8-not-register : (k : Kind) (pin : ℕ) → IsV8Table k → not (is_among (pal_registers k) pin) ≡ true
v8-not-register k pin t = ap (λ (pins : List ℕ). not (is_among pins pin)) t.no_pal

v8-most : (k : Kind) (pin n : ℕ) → IsV8Table k → (if is_22 k then (rows_22 pin).1 else n) ≡ n
v8-most k pin n t = ap (λ (b : Bool). if b then (rows_22 pin).1 else n) t.not_22

v8-output : (k : Kind) (m : Mode) (pin : ℕ) (low : Bool) (n : ℕ) → IsV8Table k → most_terms k m pin form.Comb ≡ n → TakesOutput k m pin low n
v8-output k m pin low n t e = record { not_register = v8-not-register k pin t; inversion = ap (λ (b : Bool). b || low) t.gal; most = e }

v8-fits : (k : Kind) (m : Mode) (columns : List Lit) (ac1 xor : Bool) (pin : ℕ) (rows : List Row) → IsTrue (is_v8 k) → IsTrue (has_mode k m) → IsV8Table k →
    AllByRecursion (FitsColumns columns) rows → length rows ≤ 8 → FitsCell k m columns (cells.v8_cell_of k m ac1 xor pin rows)
v8-fits k Fixed columns ac1 xor pin rows h m t f room = let wrong : not true ≡ true = subst (λ (b : Bool). not b ≡ true) h m in cc
v8-fits k Simple columns true xor pin rows h m t f room = idle-fits k Simple columns pin (v8-not-register k pin t)
v8-fits k Simple columns false xor pin rows h m t f room = output-fits k Simple columns pin (not xor) rows 8 (v8-output k Simple pin (not xor) 8 t (v8-most k pin 8 t)) refl f room
v8-fits k Complex columns true xor pin rows h m t f room = comb-fits k Complex columns pin (not xor) rows 7 (v8-output k Complex pin (not xor) 7 t (v8-most k pin 7 t)) refl f room
v8-fits k Complex columns false xor pin rows h m t f room = idle-fits k Complex columns pin (v8-not-register k pin t)
v8-fits k Registered columns true xor pin rows h m t f room =
    comb-fits k Registered columns pin (not xor) rows 7 (v8-output k Registered pin (not xor) 7 t (v8-most k pin 7 t)) refl f room
v8-fits k Registered columns false xor pin rows h m t f room =
    register-fits k Registered columns pin xor rows (record { form = refl; inversion = ap (λ (b : Bool). b || not xor) h; not_22 = t.not_22 }) f room

v8-pin : (k : Kind) (m : Mode) (ac1 xor : Bool) (pin : ℕ) (rows : List Row) → (cells.v8_cell_of k m ac1 xor pin rows).pin ≡ pin
v8-pin k Simple true xor pin rows = refl
v8-pin k Simple false xor pin rows = refl
v8-pin k Complex true xor pin rows = comb-pin pin (not xor) rows
v8-pin k Complex false xor pin rows = refl
v8-pin k Registered true xor pin rows = comb-pin pin (not xor) rows
v8-pin k Registered false xor pin rows = refl
v8-pin k Fixed true xor pin rows = comb-pin pin (not xor) rows
v8-pin k Fixed false xor pin rows = refl

v8-form : (k : Kind) (m : Mode) (ac1 xor : Bool) (pin : ℕ) (rows : List Row) → IsTrue (is_v8 k) → IsTrue (has_mode k m) →
    is_reg (cells.v8_cell_of k m ac1 xor pin rows).form ≡ (is_registered m && not ac1)
v8-form k Simple true xor pin rows h m = refl
v8-form k Simple false xor pin rows h m = refl
v8-form k Complex true xor pin rows h m = comb-form pin (not xor) rows
v8-form k Complex false xor pin rows h m = refl
v8-form k Registered true xor pin rows h m = comb-form pin (not xor) rows
v8-form k Registered false xor pin rows h m = refl
v8-form k Fixed ac1 xor pin rows h m = let wrong : not true ≡ true = subst (λ (b : Bool). not b ≡ true) h m in cc

-- the pins that are registered in a mode
abbrev v8_registered : Kind → Mode → List Bool → ℕ → Bool
v8_registered k m bits pin = is_registered m && not (cells.ac1_at k bits pin)

v8-registers : (k : Kind) (m : Mode) (bits : List Bool) → cells.v8_registers k m bits ≡ filter (v8_registered k m bits) (cell_pins k)
v8-registers k Registered bits = refl
v8-registers k Simple bits = sym (all-false (cell_pins k))
v8-registers k Complex bits = sym (all-false (cell_pins k))
v8-registers k Fixed bits = sym (all-false (cell_pins k))

row-or-never : (columns : List Lit) (b : Bool) (r : Row) → FitsColumns columns r → FitsColumns columns (if b then r else row.Never)
row-or-never columns true r h = h
row-or-never columns false r h = tt

abbrev pub v8_chip : Kind → Mode → List Bool → ChipCells
v8_chip k m bits = chip_of k m (cells.v8_cell k m bits) row.Never row.Never

pub v8-well : (k : Kind) (m : Mode) → IsTrue (is_v8 k) → IsTrue (has_mode k m) → (bits : List Bool) → IsWellFormed (v8_chip k m bits)
v8-well k m h e bits =
    let t = v8-table k h in
    let registers = cells.v8_registers k m bits in
    let columns = cells.columns_of k m registers in
    let rows : (pin : ℕ) → AllByRecursion (FitsColumns columns) (cells.v8_rows k m bits pin) = λ pin.
    all-made (FitsColumns columns) (cells.v8_row k m bits) (8 * cells.cell_place k pin) 8
    (λ r. row-or-never columns (cells.bit_at bits (cells.array_size k + 80 + r)) (cells.row_of columns (cells.row_at (array_width k) bits r))
    (array-row-fits columns (array_width k) bits r (v8-distinct k m registers h e) (v8-width k m registers h e))) in
    chip-well k m columns (v8_registered k m bits) (cells.v8_cell k m bits) row.Never row.Never
    (record {
      mode = e;
      read = ap (cells.columns_of k m) (v8-registers k m bits);
      pin = λ pin. v8-pin k m (cells.ac1_at k bits pin) (cells.xor_at k bits pin) pin (cells.v8_rows k m bits pin);
      form = λ pin. v8-form k m (cells.ac1_at k bits pin) (cells.xor_at k bits pin) pin (cells.v8_rows k m bits pin) h e;
      fits = λ pin. v8-fits k m columns (cells.ac1_at k bits pin) (cells.xor_at k bits pin) pin (cells.v8_rows k m bits pin) h e t (rows pin) (omega arith);
    }) refl refl

-- GAL22V10

v22-not-register : (k : Kind) (pin : ℕ) → IsTrue (is_22 k) → not (is_among (pal_registers k) pin) ≡ true
v22-not-register Gal22V10 pin h = refl
v22-not-register Gal22V10Q pin h = refl
v22-not-register _ pin h = cc

v22-fits : (k : Kind) (columns : List Lit) (s1 low : Bool) (pin : ℕ) (rows : List Row) → IsTrue (is_22 k) → AllByRecursion (FitsColumns columns) rows →
    length rows ≡ suc (rows_22 pin).1 → FitsCell k Fixed columns (if s1 then cells.comb_cell pin low rows else cells.reg_cell_22 pin low rows)
v22-fits k columns true low pin rows h f long =
    comb-fits k Fixed columns pin low rows (rows_22 pin).1
    (record {
      not_register = v22-not-register k pin h;
      inversion = ap (λ (b : Bool). (is_v8 k || b) || low) h ∙ ap (λ (b : Bool). b || low) (or-true (is_v8 k));
      most = ap (λ (b : Bool). if b then (rows_22 pin).1 else 7) h;
    }) refl f (omega arith)
v22-fits k columns false low pin rows h f long = register-row-fits k Fixed columns pin low rows h f long

register-pin : (pin : ℕ) (low : Bool) (rows : List Row) → (cells.reg_cell_22 pin low rows).pin ≡ pin
register-pin pin low [] = refl
register-pin pin low (first ∷ rows) = refl

register-form : (pin : ℕ) (low : Bool) (rows : List Row) (n : ℕ) → length rows ≡ suc n → is_reg (cells.reg_cell_22 pin low rows).form ≡ true
register-form pin low [] n long = absurd (omega arith)
register-form pin low (first ∷ rows) n long = refl

v22-pin : (s1 low : Bool) (pin : ℕ) (rows : List Row) → (let x : Cell = if s1 then cells.comb_cell pin low rows else cells.reg_cell_22 pin low rows in x.pin) ≡ pin
v22-pin true low pin rows = comb-pin pin low rows
v22-pin false low pin rows = register-pin pin low rows

v22-form : (s1 low : Bool) (pin : ℕ) (rows : List Row) (n : ℕ) → length rows ≡ suc n →
    is_reg (let x : Cell = if s1 then cells.comb_cell pin low rows else cells.reg_cell_22 pin low rows in x.form) ≡ not s1
v22-form true low pin rows n long = comb-form pin low rows
v22-form false low pin rows n long = register-form pin low rows n long

control-read : (k : Kind) (columns : List Lit) (r : Row) → IsTrue (is_22 k) → FitsColumns columns r → IsTrue (fits_control k columns r)
control-read k columns row.Never h f = refl
control-read k columns (row.Product lits) h f = ap (λ (b : Bool). b && fits_row columns lits) h ∙ f

fixed-mode : (k : Kind) → IsV22Table k → IsTrue (has_mode k Fixed)
fixed-mode k t = ap not t.not_v8

pub v22-well : (k : Kind) → IsTrue (is_22 k) → (bits : List Bool) → IsWellFormed (cells.cells_22 k bits)
v22-well k h bits =
    let registers = cells.registers_22 k bits in
    let columns = cells.columns_of k Fixed registers in
    let row_fits : (r : ℕ) → FitsColumns columns (cells.row_22 k bits r) = λ r. array-row-fits columns 44 bits r (v22-distinct k registers h) (v22-width k registers h) in
    let rows : ℕ → List Row = λ pin. made_from (cells.row_22 k bits) (rows_22 pin).0 ((rows_22 pin).1 + 1) in
    let long : (pin : ℕ) → length (rows pin) ≡ suc (rows_22 pin).1 = λ pin. length-made_from (cells.row_22 k bits) (rows_22 pin).0 ((rows_22 pin).1 + 1) ∙ omega arith in
    let fit : (pin : ℕ) → AllByRecursion (FitsColumns columns) (rows pin) = λ pin. all-made (FitsColumns columns) (cells.row_22 k bits) (rows_22 pin).0 ((rows_22 pin).1 + 1) row_fits in
    chip-well k Fixed columns (λ pin. not (cells.s1_at bits pin)) (cells.cell_22 k bits) (cells.row_22 k bits 0) (cells.row_22 k bits 131)
    (record {
      mode = fixed-mode k (v22-table k h);
      read = refl;
      pin = λ pin. v22-pin (cells.s1_at bits pin) (not (cells.s0_at bits pin)) pin (rows pin);
      form = λ pin. v22-form (cells.s1_at bits pin) (not (cells.s0_at bits pin)) pin (rows pin) (rows_22 pin).1 (long pin);
      fits = λ pin. v22-fits k columns (cells.s1_at bits pin) (not (cells.s0_at bits pin)) pin (rows pin) h (fit pin) (long pin);
    }) (control-read k columns (cells.row_22 k bits 0) h (row_fits 0)) (control-read k columns (cells.row_22 k bits 131) h (row_fits 131))

-- what is read is one of these

abbrev pub Told : Type 0
Told = Result ChipCells ChipError

read-is : (x c : ChipCells) → (let told : Told = Ok x in told) ≡ Ok c → IsWellFormed x → IsWellFormed c
read-is x c e w = let same : x ≡ c = cc in subst IsWellFormed same w

unrefused : (refusal : Option ChipError) (x c : ChipCells) → unless refusal (Ok x) ≡ Ok c → IsWellFormed x → IsWellFormed c
unrefused None x c e w = read-is x c e w
unrefused (Some r) x c e w = cc

v8-read : (k : Kind) (bits : List Bool) (c : ChipCells) (syn ac0 : Bool) → IsTrue (is_v8 k) → cells.v8_cells_in k bits (cells.v8_mode syn ac0) ≡ Ok c → IsWellFormed c
v8-read k bits c true false h e = unrefused None (v8_chip k Simple bits) c e (v8-well k Simple h h bits)
v8-read k bits c true true h e = unrefused (cells.v8_refusal k bits Complex) (v8_chip k Complex bits) c e (v8-well k Complex h h bits)
v8-read k bits c false true h e = unrefused None (v8_chip k Registered bits) c e (v8-well k Registered h h bits)
v8-read k bits c false false h e = cc

kind-read : (k : Kind) (bits : List Bool) (c : ChipCells) (of_22 of_v8 : Bool) → is_22 k ≡ of_22 → is_v8 k ≡ of_v8 →
    (if of_22 then Ok (cells.cells_22 k bits) else (if of_v8 then cells.v8_cells_in k bits (cells.v8_mode (cells.syn k bits) (cells.ac0 k bits)) else Ok (cells.pal_cells k bits))) ≡ Ok c → IsWellFormed c
kind-read k bits c true of_v8 h g e = read-is (cells.cells_22 k bits) c e (v22-well k h bits)
kind-read k bits c false true h g e = v8-read k bits c (cells.syn k bits) (cells.ac0 k bits) g e
kind-read k bits c false false h g e = read-is (cells.pal_cells k bits) c e (pal-well k (ap (λ (b : Bool). not (b || is_22 k)) g ∙ ap not h) bits)

pub counted : (b : Bool) (x : Told) (r : ChipError) (c : ChipCells) → (if b then x else Err r) ≡ Ok c → x ≡ Ok c
counted true x r c e = e
counted false x r c e = cc

-- the cells that some fuses of a chip's kind make are well formed
pub made-well : (line : ChipLine) (c : ChipCells) → IsMade line c → IsWellFormed c
made-well line c made =
    let k = line.kind in
    kind-read k made.0 c (is_22 k) (is_v8 k) refl refl (counted (has_count k (length made.0)) (cells.cells_by_kind k made.0) (Count (length made.0)) c made.1)
