-- A macrocell of a GAL16V8 or GAL20V8 is made again by its own settings and rows.
use Rattle.std.proofs.Common.{ℕ, zero, suc, ◌≡◌, ◌+◌, ◌-◌, ◌*◌, ◌<◌, ◌≤◌, Bool, true, false, not, ◌||◌, ◌&&◌, if◌then◌else◌, List, [], ◌∷◌, ◌++◌, map, replicate, length, refl, sym, ap, ◌∙◌, subst, arith, IsTrue, eq-eqb}
use Rattle.std.specs.List.{AllByRecursion}
use Rattle.std.proofs.lemmas.List.{length-append, length-map, length-replicate}
use Rattle.std.proofs.lemmas.Bool.{eqb-true, lt-ltb, not-true, and_parts}
use Rattle.std.proofs.Math.Bool.{not-not}
use Rattle.mig_base.specs.declared.kinds.Kind.{Kind}
use Rattle.mig_base.specs.declared.kinds.Kind.TheVariants.{Gal16V8, Gal20V8}
use Rattle.mig_base.specs.declared.kinds.Mode.{Mode}
use Rattle.mig_base.specs.declared.kinds.Mode.TheVariants.{Fixed, Simple, Complex, Registered}
use Rattle.mig_base.specs.declared.cells.Lit.{Lit}
use Rattle.mig_base.specs.declared.cells.Row.{Row}
use Rattle.mig_base.specs.declared.cells.Row.TheVariants as row
use Rattle.mig_base.specs.declared.cells.Enable.{Enable}
use Rattle.mig_base.specs.declared.cells.Enable.TheVariants as enable
use Rattle.mig_base.specs.declared.cells.Form.{Form}
use Rattle.mig_base.specs.declared.cells.Form.TheVariants as form
use Rattle.mig_base.specs.declared.cells.Cell.{Cell}
use Rattle.mig_base.specs.First.{made_from}
use Rattle.mig_base.specs.DeviceTables.{pair_pins, cell_pins, top_pin, array_width, enable_pin, rows_22, has_count, pal_registers, even_reads_q, is_22, is_v8, is_gal}
use Rattle.mig_base.specs.Cells as cells
use Rattle.mig_base.specs.Cells.{is_among}
use Rattle.mig_base.specs.WellFormed.{has_mode, is_reg, is_simple, is_registered, is_never, is_low_pin, has_enable_row, FitsCell, has_form, has_enable, has_inversions, most_terms, fits_row}
use Rattle.mig_base.specs.WrittenCells.{enable_rows, filled, cell_rows, xor_fuse, ac1_fuse}
use Rattle.mig_base.proofs.ListLaws.{or-left, all-append}
use Rattle.devices.proofs.RowLaws.{IsDistinct, FitsColumns, distinct_pins, columns-distinct, length-columns}

-- what the tables of a GAL16V8 or GAL20V8 hold
pub record IsV8Table (k : Kind) : Type 0 where
  pub not_22 : is_22 k ≡ false
  pub gal : is_gal k ≡ true
  pub no_pal : pal_registers k ≡ []
  pub high : 7 ≤ top_pin k
  pub pins : cell_pins k ≡ made_from (λ (p : ℕ). p) (top_pin k - 7) 8
  pub count : (n : ℕ) → n ≡ 64 * array_width k + 146 → has_count k n ≡ true
  pub made : (bits : List Bool) → cells.cells_by_kind k bits ≡ cells.v8_cells_in k bits (cells.v8_mode (cells.syn k bits) (cells.ac0 k bits))

pub v8-table : (k : Kind) → IsTrue (is_v8 k) → IsV8Table k
v8-table Gal16V8 h = record { not_22 = refl; gal = refl; no_pal = refl; high = omega arith; pins = refl; count = λ n e. eq-eqb n 2194 e; made = λ bits. refl }
v8-table Gal20V8 h = record { not_22 = refl; gal = refl; no_pal = refl; high = omega arith; pins = refl; count = λ n e. eq-eqb n 2706 e; made = λ bits. refl }
v8-table _ h = cc

-- what the column pairs of a GAL16V8 or GAL20V8 are in each mode
pub record IsPairTable (pairs : List ℕ) (width : ℕ) : Type 0 where
  pub wide : 2 * length pairs ≡ width
  pub distinct : distinct_pins pairs ≡ true

pub pair-table : (k : Kind) (mode : Mode) → IsTrue (is_v8 k) → IsTrue (has_mode k mode) → IsPairTable (pair_pins k mode) (array_width k)
pair-table Gal16V8 Fixed h m = cc
pair-table Gal20V8 Fixed h m = cc
pair-table Gal16V8 mode h m = record { wide = refl; distinct = refl }
pair-table Gal20V8 mode h m = record { wide = refl; distinct = refl }
pair-table _ mode h m = cc

pub v8-width : (k : Kind) (mode : Mode) (registers : List ℕ) → IsTrue (is_v8 k) → IsTrue (has_mode k mode) → length (cells.columns_of k mode registers) ≡ array_width k
v8-width k mode registers h m = length-columns (even_reads_q k) registers (pair_pins k mode) ∙ (pair-table k mode h m).wide

pub v8-distinct : (k : Kind) (mode : Mode) (registers : List ℕ) → IsTrue (is_v8 k) → IsTrue (has_mode k mode) → IsDistinct (cells.columns_of k mode registers)
v8-distinct k mode registers h m = columns-distinct (even_reads_q k) registers (pair_pins k mode) (pair-table k mode h m).distinct

pub terms-none : (n : ℕ) → cells.terms_of (replicate n row.Never) ≡ []
terms-none zero = refl
terms-none (suc n) = terms-none n

pub terms-read : (terms : List (List Lit)) (n : ℕ) → cells.terms_of (map (λ (lits : List Lit). row.Product lits) terms ++ replicate n row.Never) ≡ terms
terms-read [] n = terms-none n
terms-read (lits ∷ terms) n = ap (λ (rest : List (List Lit)). lits ∷ rest) (terms-read terms n)

abbrev pub cell_with : ℕ → Form → Bool → Bool → Enable → List (List Lit) → Cell
cell_with pin f low pin_low e terms = record { pin = pin; form = f; low = low; pin_low = pin_low; enable = e; terms = terms }

abbrev pub of_cell : Kind → Mode → Cell → Cell
of_cell k m cell = cells.v8_cell_of k m (ac1_fuse m cell) (xor_fuse cell) cell.pin (cell_rows m 8 cell)

pub idle-of : (k : Kind) (m : Mode) (pin : ℕ) → of_cell k m (cells.idle pin) ≡ cells.idle pin
idle-of k Simple pin = refl
idle-of k Complex pin = refl
idle-of k Registered pin = refl
idle-of k Fixed pin = refl

pub idle-is : (pin : ℕ) (low pin_low : Bool) (e : Enable) (terms : List (List Lit)) → (not low && not pin_low) ≡ true → is_never e ≡ true → length terms ≤ 0 →
    cell_with pin form.Idle low pin_low e terms ≡ cells.idle pin
idle-is pin false false enable.Never [] i e n = refl
idle-is pin false false enable.Never (lits ∷ terms) i e n = absurd (omega arith)
idle-is pin true pin_low e terms i h n = cc
idle-is pin false true e terms i h n = cc
idle-is pin false false enable.Always terms i e n = cc
idle-is pin false false (enable.Term lits) terms i e n = cc
idle-is pin false false (enable.LowPin p) terms i e n = cc

-- what follows the enable of a combinational cell
pub comb-terms : (pin : ℕ) (low : Bool) (e : Enable) (terms : List (List Lit)) (n : ℕ) →
    cell_with pin form.Comb (not (not low)) false e (cells.terms_of (map (λ (lits : List Lit). row.Product lits) terms ++ replicate n row.Never)) ≡ cell_with pin form.Comb low false e terms
comb-terms pin low e terms n =
    ap (λ (b : Bool). cell_with pin form.Comb b false e (cells.terms_of (map (λ (lits : List Lit). row.Product lits) terms ++ replicate n row.Never))) (not-not low)
    ∙ ap (cell_with pin form.Comb low false e) (terms-read terms n)

-- a combinational cell with an enable row
pub comb-row : (pin : ℕ) (low : Bool) (columns : List Lit) (e : Enable) (terms : List (List Lit)) (m : Mode) → is_simple m ≡ false → has_enable_row columns e ≡ true →
    cells.comb_cell pin (not (not low)) (cell_rows m 8 (cell_with pin form.Comb low false e terms)) ≡ cell_with pin form.Comb low false e terms
comb-row pin low columns e terms Simple s h = cc
comb-row pin low columns enable.Never terms m s h = cc
comb-row pin low columns (enable.LowPin p) terms m s h = cc
comb-row pin low columns (enable.Term []) terms m s h = cc
comb-row pin low columns enable.Always terms m s h = comb-terms pin low enable.Always terms (8 - suc (length (map (λ (lits : List Lit). row.Product lits) terms)))
comb-row pin low columns (enable.Term (l ∷ ls)) terms m s h = comb-terms pin low (enable.Term (l ∷ ls)) terms (8 - suc (length (map (λ (lits : List Lit). row.Product lits) terms)))

pub comb-of : (k : Kind) (m : Mode) (columns : List Lit) (pin : ℕ) (low : Bool) (e : Enable) (terms : List (List Lit)) → has_enable k m columns form.Comb e ≡ true →
    of_cell k m (cell_with pin form.Comb low false e terms) ≡ cell_with pin form.Comb low false e terms
comb-of k Simple columns pin low enable.Always terms h = comb-terms pin low enable.Always terms (8 - length (map (λ (lits : List Lit). row.Product lits) terms))
comb-of k Simple columns pin low enable.Never terms h = cc
comb-of k Simple columns pin low (enable.Term lits) terms h = cc
comb-of k Simple columns pin low (enable.LowPin p) terms h = cc
comb-of k m columns pin low e terms h = comb-row pin low columns e terms m refl h

-- a registered cell of registered mode
pub reg-of : (k : Kind) (m : Mode) (pin : ℕ) (low : Bool) (e : Enable) (terms : List (List Lit)) → is_registered m ≡ true → is_low_pin (enable_pin k) e ≡ true →
    of_cell k m (cell_with pin form.Reg low true e terms) ≡ cell_with pin form.Reg low true e terms
reg-of k Simple pin low e terms m h = cc
reg-of k Complex pin low e terms m h = cc
reg-of k Fixed pin low e terms m h = cc
reg-of k Registered pin low enable.Never terms m h = cc
reg-of k Registered pin low enable.Always terms m h = cc
reg-of k Registered pin low (enable.Term lits) terms m h = cc
reg-of k Registered pin low (enable.LowPin p) terms m h =
    ap (λ (ts : List (List Lit)). cell_with pin form.Reg low true (enable.LowPin (enable_pin k)) ts) (terms-read terms (8 - length (map (λ (lits : List Lit). row.Product lits) terms)))
    ∙ ap (λ (q : ℕ). cell_with pin form.Reg low true (enable.LowPin q) terms) (sym (eqb-true p (enable_pin k) h))

-- where a cell of registered form fits
pub record IsV8Register (k : Kind) (m : Mode) (pin_low : Bool) (e : Enable) : Type 0 where
  pub mode : is_registered m ≡ true
  pub pin : pin_low ≡ true
  pub enable : is_low_pin (enable_pin k) e ≡ true

pub v8-register : (k : Kind) (m : Mode) (columns : List Lit) (pin : ℕ) (low pin_low : Bool) (e : Enable) → IsV8Table k → has_form k m pin form.Reg ≡ true →
    has_inversions k form.Reg low pin_low ≡ true → has_enable k m columns form.Reg e ≡ true → IsV8Register k m pin_low e
v8-register k m columns pin low pin_low e t hf hi he =
    let reg : (false || (is_registered m || is_among [] pin)) ≡ true =
    subst (λ (ps : List ℕ). (false || (is_registered m || is_among ps pin)) ≡ true) t.no_pal (subst (λ (b : Bool). (b || (is_registered m || is_among (pal_registers k) pin)) ≡ true) t.not_22 hf) in
    let inversion : (is_22 k || pin_low) ≡ true = (and_parts (is_v8 k || not low) (is_22 k || pin_low) hi).1 in
    record {
      mode = or-left (is_registered m) (is_among [] pin) refl reg;
      pin = subst (λ (b : Bool). (b || pin_low) ≡ true) t.not_22 inversion;
      enable = subst (λ (b : Bool). (if b then is_never e || has_enable_row columns e else is_low_pin (enable_pin k) e) ≡ true) t.not_22 he;
    }

-- a cell that fits is made again by its own settings and rows
pub cell-by : (k : Kind) (m : Mode) (columns : List Lit) (pin : ℕ) (f : Form) (low pin_low : Bool) (e : Enable) (terms : List (List Lit)) → IsV8Table k →
    has_form k m pin f ≡ true → has_inversions k f low pin_low ≡ true → has_enable k m columns f e ≡ true → length terms ≤ most_terms k m pin f →
    of_cell k m (cell_with pin f low pin_low e terms) ≡ cell_with pin f low pin_low e terms
cell-by k m columns pin form.Idle low pin_low e terms t hf hi he n =
    let is = idle-is pin low pin_low e terms hi he n in
    ap (of_cell k m) is ∙ idle-of k m pin ∙ sym is
cell-by k m columns pin form.Comb low pin_low e terms t hf hi he n =
    let low_pin : false ≡ pin_low = sym (not-true pin_low (and_parts (is_gal k || low) (not pin_low) hi).1) in
    subst (λ (b : Bool). of_cell k m (cell_with pin form.Comb low b e terms) ≡ cell_with pin form.Comb low b e terms) low_pin (comb-of k m columns pin low e terms he)
cell-by k m columns pin form.Reg low pin_low e terms t hf hi he n =
    let r = v8-register k m columns pin low pin_low e t hf hi he in
    subst (λ (b : Bool). of_cell k m (cell_with pin form.Reg low b e terms) ≡ cell_with pin form.Reg low b e terms) (sym r.pin) (reg-of k m pin low e terms r.mode r.enable)

pub cell-again : (k : Kind) (m : Mode) (columns : List Lit) (cell : Cell) → IsV8Table k → FitsCell k m columns cell → of_cell k m cell ≡ cell
cell-again k m columns cell t h = cell-by k m columns cell.pin cell.form cell.low cell.pin_low cell.enable cell.terms t h.form h.inversions h.enable h.count

pub one-enable : (m : Mode) (e : Enable) → length (enable_rows m e) ≤ 1
one-enable Simple e = omega arith
one-enable m enable.Always = omega arith
one-enable m enable.Never = omega arith
one-enable m (enable.Term lits) = omega arith
one-enable m (enable.LowPin p) = omega arith

pub no-rows : (m : Mode) (pin : ℕ) (e : Enable) → is_low_pin pin e ≡ true → enable_rows m e ≡ []
no-rows Simple pin e h = refl
no-rows m pin (enable.LowPin p) h = refl
no-rows m pin enable.Never h = cc
no-rows m pin enable.Always h = cc
no-rows m pin (enable.Term lits) h = cc

pub few-rows : (k : Kind) (m : Mode) (columns : List Lit) (pin : ℕ) (f : Form) (low pin_low : Bool) (e : Enable) (n : ℕ) → IsV8Table k →
    has_form k m pin f ≡ true → has_inversions k f low pin_low ≡ true → has_enable k m columns f e ≡ true → n ≤ most_terms k m pin f → length (enable_rows m e) + n ≤ 8
few-rows k m columns pin form.Idle low pin_low e n t hf hi he room = let one = one-enable m e in omega arith
few-rows k Simple columns pin form.Comb low pin_low e n t hf hi he room =
    let most : n ≤ 8 = subst (λ (b : Bool). n ≤ (if b then (rows_22 pin).1 else 8)) t.not_22 room in omega arith
few-rows k m columns pin form.Comb low pin_low e n t hf hi he room =
    let most : n ≤ 7 = subst (λ (b : Bool). n ≤ (if b then (rows_22 pin).1 else 7)) t.not_22 room in
    let one = one-enable m e in omega arith
few-rows k m columns pin form.Reg low pin_low e n t hf hi he room =
    let most : n ≤ 8 = subst (λ (b : Bool). n ≤ (if b then (rows_22 pin).1 else 8)) t.not_22 room in
    let none : length (enable_rows m e) ≡ 0 = ap length (no-rows m (enable_pin k) e (v8-register k m columns pin low pin_low e t hf hi he).enable) in omega arith

pub filled-long : (n : ℕ) (rows : List Row) → length rows ≤ n → length (filled n rows) ≡ n
filled-long n rows h = length-append rows (replicate (n - length rows) row.Never) ∙ ap (λ (k : ℕ). length rows + k) (length-replicate (n - length rows) row.Never) ∙ omega arith

abbrev pub own_rows : Mode → Cell → List Row
own_rows m cell = enable_rows m cell.enable ++ map (λ (lits : List Lit). row.Product lits) cell.terms

pub eight-rows : (k : Kind) (m : Mode) (columns : List Lit) (cell : Cell) → IsV8Table k → FitsCell k m columns cell → length (cell_rows m 8 cell) ≡ 8
eight-rows k m columns cell t h =
    let few = few-rows k m columns cell.pin cell.form cell.low cell.pin_low cell.enable (length cell.terms) t h.form h.inversions h.enable h.count in
    let long : length (own_rows m cell) ≡ length (enable_rows m cell.enable) + length cell.terms =
    length-append (enable_rows m cell.enable) (map (λ (lits : List Lit). row.Product lits) cell.terms)
    ∙ ap (λ (n : ℕ). length (enable_rows m cell.enable) + n) (length-map cell.terms (λ (lits : List Lit). row.Product lits)) in
    filled-long 8 (own_rows m cell) (omega arith)

pub never-fits : (columns : List Lit) (n : ℕ) → AllByRecursion (FitsColumns columns) (replicate n row.Never)
never-fits columns zero = tt
never-fits columns (suc n) = (tt, never-fits columns n)

pub terms-fit : (columns : List Lit) (terms : List (List Lit)) → AllByRecursion (λ (term : List Lit). IsTrue (fits_row columns term)) terms →
    AllByRecursion (FitsColumns columns) (map (λ (lits : List Lit). row.Product lits) terms)
terms-fit columns [] h = tt
terms-fit columns (lits ∷ terms) h = (h.0, terms-fit columns terms h.1)

-- an enable row that has columns
pub enable-row-fits : (columns : List Lit) (m : Mode) (e : Enable) → 0 < length columns → has_enable_row columns e ≡ true → AllByRecursion (FitsColumns columns) (enable_rows m e)
enable-row-fits columns Simple e n h = tt
enable-row-fits columns m enable.Always n h = (lt-ltb 0 (length columns) n, tt)
enable-row-fits columns m enable.Never n h = cc
enable-row-fits columns m (enable.LowPin p) n h = cc
enable-row-fits columns m (enable.Term []) n h = cc
enable-row-fits columns m (enable.Term (l ∷ ls)) n h = (h, tt)

pub never-row-fits : (columns : List Lit) (m : Mode) (e : Enable) → is_never e ≡ true → AllByRecursion (FitsColumns columns) (enable_rows m e)
never-row-fits columns Simple e h = tt
never-row-fits columns m enable.Never h = (tt, tt)
never-row-fits columns m enable.Always h = cc
never-row-fits columns m (enable.LowPin p) h = cc
never-row-fits columns m (enable.Term lits) h = cc

pub enable-fits : (k : Kind) (m : Mode) (columns : List Lit) (pin : ℕ) (f : Form) (low pin_low : Bool) (e : Enable) → IsV8Table k → 0 < length columns →
    has_form k m pin f ≡ true → has_inversions k f low pin_low ≡ true → has_enable k m columns f e ≡ true → AllByRecursion (FitsColumns columns) (enable_rows m e)
enable-fits k m columns pin form.Idle low pin_low e t n hf hi he = never-row-fits columns m e he
enable-fits k Simple columns pin form.Comb low pin_low e t n hf hi he = tt
enable-fits k m columns pin form.Comb low pin_low e t n hf hi he = enable-row-fits columns m e n he
enable-fits k m columns pin form.Reg low pin_low e t n hf hi he =
    subst (AllByRecursion (FitsColumns columns)) (sym (no-rows m (enable_pin k) e (v8-register k m columns pin low pin_low e t hf hi he).enable)) tt

pub rows-fit : (k : Kind) (m : Mode) (columns : List Lit) (cell : Cell) → IsV8Table k → 0 < length columns → FitsCell k m columns cell → AllByRecursion (FitsColumns columns) (cell_rows m 8 cell)
rows-fit k m columns cell t n h =
    let first = enable-fits k m columns cell.pin cell.form cell.low cell.pin_low cell.enable t n h.form h.inversions h.enable in
    let own = all-append (FitsColumns columns) (enable_rows m cell.enable) (map (λ (lits : List Lit). row.Product lits) cell.terms) first (terms-fit columns cell.terms h.terms) in
    all-append (FitsColumns columns) (own_rows m cell) (replicate (8 - length (own_rows m cell)) row.Never) own (never-fits columns (8 - length (own_rows m cell)))

abbrev pub no_cell : Cell
no_cell = cells.idle 0

pub no-register : (k : Kind) (m : Mode) (pin : ℕ) (f : Form) → IsV8Table k → is_registered m ≡ false → has_form k m pin f ≡ true → is_reg f ≡ false
no-register k m pin form.Idle t r h = refl
no-register k m pin form.Comb t r h = refl
no-register k m pin form.Reg t r h =
    let reg : (false || (is_registered m || is_among [] pin)) ≡ true =
    subst (λ (ps : List ℕ). (false || (is_registered m || is_among ps pin)) ≡ true) t.no_pal (subst (λ (b : Bool). (b || (is_registered m || is_among (pal_registers k) pin)) ≡ true) t.not_22 h) in
    let yes : is_registered m ≡ true = or-left (is_registered m) (is_among [] pin) refl reg in
    cc
