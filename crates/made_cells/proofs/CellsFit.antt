-- The cells that rows make fit their kind and mode, and a chip that is made of such cells is well formed.
use Rattle.std.proofs.Common.{ℕ, zero, suc, ◌≡◌, ◌+◌, ◌*◌, ◌≤◌, Bool, true, false, not, ◌||◌, ◌&&◌, if◌then◌else◌, filter, List, [], ◌∷◌, map, drop, length, refl, sym, ap, ◌∙◌, subst, arith, IsTrue, eqb, eq-eqb, min}
use Rattle.std.specs.List.{AllByRecursion}
use Rattle.std.proofs.lemmas.List.{length-take}
use Rattle.std.proofs.Math.Bool.{or-true}
use Rattle.mig_base.specs.declared.kinds.Kind.{Kind}
use Rattle.mig_base.specs.declared.kinds.Mode.{Mode}
use Rattle.mig_base.specs.declared.cells.Lit.{Lit}
use Rattle.mig_base.specs.declared.cells.Row.{Row}
use Rattle.mig_base.specs.declared.cells.Row.TheVariants as row
use Rattle.mig_base.specs.declared.cells.Enable.TheVariants as enable
use Rattle.mig_base.specs.declared.cells.Form.TheVariants as form
use Rattle.mig_base.specs.declared.cells.Cell.{Cell}
use Rattle.mig_base.specs.declared.cells.ChipCells.{ChipCells}
use Rattle.mig_base.specs.First.{made_from}
use Rattle.mig_base.specs.DeviceTables.{cell_pins, enable_pin, rows_22, pal_registers, is_22, is_v8, is_gal}
use Rattle.mig_base.specs.Cells as cells
use Rattle.mig_base.specs.Cells.{is_among, row_at, row_of}
use Rattle.mig_base.specs.WellFormed.{has_mode, is_reg, is_simple, is_registered, is_never, is_always, has_enable_row, is_low_pin, most_terms, registers_in, chip_columns, FitsCell, IsWellFormed, fits_row, fits_control}
use Rattle.mig_base.proofs.ListLaws.{filter-map}
use Rattle.devices.proofs.RowLaws.{IsDistinct, FitsColumns}
use Rattle.devices.proofs.ReadRows.{row-fits}

-- rows as terms

pub terms-read-fit : (columns : List Lit) (rows : List Row) → AllByRecursion (FitsColumns columns) rows → AllByRecursion (λ (term : List Lit). IsTrue (fits_row columns term)) (cells.terms_of rows)
terms-read-fit columns [] h = tt
terms-read-fit columns (row.Never ∷ rows) h = terms-read-fit columns rows h.1
terms-read-fit columns (row.Product lits ∷ rows) h = (h.0, terms-read-fit columns rows h.1)

pub few-terms : (rows : List Row) → length (cells.terms_of rows) ≤ length rows
few-terms [] = omega arith
few-terms (row.Never ∷ rows) = let few = few-terms rows in omega arith
few-terms (row.Product lits ∷ rows) = let few = few-terms rows in omega arith

-- rows that are made one by one

pub all-made : {T : Type 0} (P : T → Type 0) (f : ℕ → T) (first n : ℕ) → ((r : ℕ) → P (f r)) → AllByRecursion P (made_from f first n)
all-made P f first zero h = tt
all-made P f first (suc n) h = (h first, all-made P f (first + 1) n h)

-- a row of an array fits its columns
pub array-row-fits : (columns : List Lit) (width : ℕ) (bits : List Bool) (r : ℕ) → IsDistinct columns → length columns ≡ width → FitsColumns columns (row_of columns (row_at width bits r))
array-row-fits columns width bits r distinct wide =
    let short : length (row_at width bits r) ≡ min width (length (drop (width * r) bits)) = length-take width (drop (width * r) bits) in
    row-fits columns (row_at width bits r) distinct (omega arith)

-- the cells that rows make

pub idle-fits : (k : Kind) (m : Mode) (columns : List Lit) (pin : ℕ) → not (is_among (pal_registers k) pin) ≡ true → FitsCell k m columns (cells.idle pin)
idle-fits k m columns pin h = record { form = h; inversions = refl; enable = refl; count = omega arith; terms = tt }

-- a macrocell that can be combinational, with so many terms
pub record TakesOutput (k : Kind) (m : Mode) (pin : ℕ) (low : Bool) (n : ℕ) : Type 0 where
  pub not_register : not (is_among (pal_registers k) pin) ≡ true
  pub inversion : (is_gal k || low) ≡ true
  pub most : most_terms k m pin form.Comb ≡ n

row-enable : (m : Mode) (columns lits : List Lit) → is_simple m ≡ false → IsTrue (fits_row columns lits) →
    (if is_simple m then is_always (cells.enable_of (row.Product lits)) else has_enable_row columns (cells.enable_of (row.Product lits))) ≡ true
row-enable m columns [] s h = subst (λ (x : Bool). (if x then true else true) ≡ true) (sym s) refl
row-enable m columns (l ∷ ls) s h = subst (λ (x : Bool). (if x then false else fits_row columns (l ∷ ls)) ≡ true) (sym s) h

-- a combinational cell with an enable row
pub comb-fits : (k : Kind) (m : Mode) (columns : List Lit) (pin : ℕ) (low : Bool) (rows : List Row) (n : ℕ) → TakesOutput k m pin low n → is_simple m ≡ false →
    AllByRecursion (FitsColumns columns) rows → length rows ≤ suc n → FitsCell k m columns (cells.comb_cell pin low rows)
comb-fits k m columns pin low [] n t s f room = idle-fits k m columns pin t.not_register
comb-fits k m columns pin low (row.Never ∷ rows) n t s f room = idle-fits k m columns pin t.not_register
comb-fits k m columns pin low (row.Product lits ∷ rows) n t s f room =
    let few : length (cells.terms_of rows) ≤ n = (let all = few-terms rows in omega arith) in
    record {
      form = t.not_register;
      inversions = ap (λ (b : Bool). b && true) t.inversion;
      enable = row-enable m columns lits s f.0;
      count = subst (λ (most : ℕ). length (cells.terms_of rows) ≤ most) (sym t.most) few;
      terms = terms-read-fit columns rows f.1;
    }

always-enabled : (m : Mode) (b : Bool) → is_simple m ≡ true → (if is_simple m then true else b) ≡ true
always-enabled m b s = ap (λ (x : Bool). if x then true else b) s

-- an output of simple mode
pub output-fits : (k : Kind) (m : Mode) (columns : List Lit) (pin : ℕ) (low : Bool) (rows : List Row) (n : ℕ) → TakesOutput k m pin low n → is_simple m ≡ true →
    AllByRecursion (FitsColumns columns) rows → length rows ≤ n → FitsCell k m columns (cells.output_cell pin low rows)
output-fits k m columns pin low rows n t s f room =
    let few : length (cells.terms_of rows) ≤ n = (let all = few-terms rows in omega arith) in
    record {
      form = t.not_register;
      inversions = ap (λ (b : Bool). b && true) t.inversion;
      enable = always-enabled m (has_enable_row columns enable.Always) s;
      count = subst (λ (most : ℕ). length (cells.terms_of rows) ≤ most) (sym t.most) few;
      terms = terms-read-fit columns rows f;
    }

low-pin-itself : (pin : ℕ) (b c : Bool) → b ≡ false → (if b then c else eqb pin pin) ≡ true
low-pin-itself pin b c e = subst (λ (x : Bool). (if x then c else eqb pin pin) ≡ true) (sym e) (eq-eqb pin pin refl)

-- a macrocell of a chip with an enable pin that can be registered
pub record TakesRegister (k : Kind) (m : Mode) (pin : ℕ) (low : Bool) : Type 0 where
  pub form : (is_registered m || is_among (pal_registers k) pin) ≡ true
  pub inversion : (is_v8 k || not low) ≡ true
  pub not_22 : is_22 k ≡ false

-- a registered cell that the enable pin enables
pub register-fits : (k : Kind) (m : Mode) (columns : List Lit) (pin : ℕ) (low : Bool) (rows : List Row) → TakesRegister k m pin low →
    AllByRecursion (FitsColumns columns) rows → length rows ≤ 8 → FitsCell k m columns (cells.reg_cell pin low (enable_pin k) rows)
register-fits k m columns pin low rows t f room =
    let few : length (cells.terms_of rows) ≤ 8 = (let all = few-terms rows in omega arith) in
    record {
      form = ap (λ (b : Bool). b || (is_registered m || is_among (pal_registers k) pin)) t.not_22 ∙ t.form;
      inversions = ap (λ (b : Bool). b && (is_22 k || true)) t.inversion ∙ or-true (is_22 k);
      enable = low-pin-itself (enable_pin k) (is_22 k) (is_never (enable.LowPin (enable_pin k)) || has_enable_row columns (enable.LowPin (enable_pin k))) t.not_22;
      count = subst (λ (b : Bool). length (cells.terms_of rows) ≤ (if b then (rows_22 pin).1 else 8)) (sym t.not_22) few;
      terms = terms-read-fit columns rows f;
    }

own-enable : (columns : List Lit) (r : Row) → FitsColumns columns r → (is_never (cells.enable_of r) || has_enable_row columns (cells.enable_of r)) ≡ true
own-enable columns row.Never h = refl
own-enable columns (row.Product []) h = refl
own-enable columns (row.Product (l ∷ ls)) h = h

-- a registered cell with an enable row of its own
pub register-row-fits : (k : Kind) (m : Mode) (columns : List Lit) (pin : ℕ) (pin_low : Bool) (rows : List Row) → is_22 k ≡ true →
    AllByRecursion (FitsColumns columns) rows → length rows ≡ suc (rows_22 pin).1 → FitsCell k m columns (cells.reg_cell_22 pin pin_low rows)
register-row-fits k m columns pin pin_low [] t f long = absurd (omega arith)
register-row-fits k m columns pin pin_low (first ∷ rows) t f long =
    let few : length (cells.terms_of rows) ≤ (rows_22 pin).1 = (let all = few-terms rows in omega arith) in
    record {
      form = ap (λ (b : Bool). b || (is_registered m || is_among (pal_registers k) pin)) t;
      inversions = ap (λ (b : Bool). b && (is_22 k || pin_low)) (or-true (is_v8 k)) ∙ ap (λ (b : Bool). b || pin_low) t;
      enable = ap (λ (b : Bool). if b then is_never (cells.enable_of first) || has_enable_row columns (cells.enable_of first) else is_low_pin (enable_pin k) (cells.enable_of first)) t ∙ own-enable columns first f.0;
      count = subst (λ (b : Bool). length (cells.terms_of rows) ≤ (if b then (rows_22 pin).1 else 8)) (sym t) few;
      terms = terms-read-fit columns rows f.1;
    }

-- the pin and the form of a cell

pub comb-pin : (pin : ℕ) (low : Bool) (rows : List Row) → (cells.comb_cell pin low rows).pin ≡ pin
comb-pin pin low [] = refl
comb-pin pin low (row.Never ∷ rows) = refl
comb-pin pin low (row.Product lits ∷ rows) = refl

pub comb-form : (pin : ℕ) (low : Bool) (rows : List Row) → is_reg (cells.comb_cell pin low rows).form ≡ false
comb-form pin low [] = refl
comb-form pin low (row.Never ∷ rows) = refl
comb-form pin low (row.Product lits ∷ rows) = refl

pub map-pins : (f : ℕ → Cell) (pins : List ℕ) → ((pin : ℕ) → (f pin).pin ≡ pin) → map (λ (cell : Cell). cell.pin) (map f pins) ≡ pins
map-pins f [] h = refl
map-pins f (p ∷ ps) h = ap (λ (q : ℕ). q ∷ map (λ (cell : Cell). cell.pin) (map f ps)) (h p) ∙ ap (λ (rest : List ℕ). p ∷ rest) (map-pins f ps h)

all-images : {A B : Type 0} (P : B → Type 0) (f : A → B) (xs : List A) → ((x : A) → P (f x)) → AllByRecursion P (map f xs)
all-images P f [] h = tt
all-images P f (x ∷ xs) h = (h x, all-images P f xs h)

all-true : {A : Type 0} (P : A → Type 0) (xs : List A) → ((x : A) → P x) → AllByRecursion P xs
all-true P [] h = tt
all-true P (x ∷ xs) h = (h x, all-true P xs h)

-- a chip of cells that are made pin by pin

abbrev pub chip_of : Kind → Mode → (ℕ → Cell) → Row → Row → ChipCells
chip_of k m cell reset preset = record { kind = k; mode = m; cells = map cell (cell_pins k); reset = reset; preset = preset }

-- each macrocell has its pin, is registered where the chip says so, and fits the columns
pub record AreCells (k : Kind) (m : Mode) (columns : List Lit) (registers : ℕ → Bool) (cell : ℕ → Cell) : Type 0 where
  pub mode : IsTrue (has_mode k m)
  pub read : columns ≡ cells.columns_of k m (filter registers (cell_pins k))
  pub pin : (pin : ℕ) → (cell pin).pin ≡ pin
  pub form : (pin : ℕ) → is_reg (cell pin).form ≡ registers pin
  pub fits : (pin : ℕ) → FitsCell k m columns (cell pin)

pub chip-well : (k : Kind) (m : Mode) (columns : List Lit) (registers : ℕ → Bool) (cell : ℕ → Cell) (reset preset : Row) → AreCells k m columns registers cell →
    IsTrue (fits_control k columns reset) → IsTrue (fits_control k columns preset) → IsWellFormed (chip_of k m cell reset preset)
chip-well k m columns registers cell reset preset h r p =
    let found : registers_in (map cell (cell_pins k)) ≡ filter registers (cell_pins k) =
    ap (map (λ (x : Cell). x.pin)) (filter-map cell (λ (x : Cell). is_reg x.form) registers (cell_pins k)
    (all-true (λ (pin : ℕ). is_reg (cell pin).form ≡ registers pin) (cell_pins k) h.form))
    ∙ map-pins cell (filter registers (cell_pins k)) h.pin in
    let same : columns ≡ chip_columns (chip_of k m cell reset preset) = h.read ∙ ap (cells.columns_of k m) (sym found) in
    record {
      mode = h.mode;
      pins = map-pins cell (cell_pins k) h.pin;
      cells = subst (λ (cs : List Lit). AllByRecursion (FitsCell k m cs) (map cell (cell_pins k))) same (all-images (FitsCell k m columns) cell (cell_pins k) h.fits);
      reset = subst (λ (cs : List Lit). IsTrue (fits_control k cs reset)) same r;
      preset = subst (λ (cs : List Lit). IsTrue (fits_control k cs preset)) same p;
    }
