-- A macrocell of a GAL22V10 is made again by its own settings and rows, and its rows fit its array.
use Rattle.std.proofs.Common.{ℕ, suc, ◌≡◌, ◌+◌, ◌-◌, ◌<◌, ◌≤◌, Bool, true, false, not, ◌||◌, if◌then◌else◌, List, [], ◌∷◌, ◌++◌, map, replicate, length, sym, ap, ◌∙◌, subst, arith}
use Rattle.std.specs.List.{AllByRecursion}
use Rattle.std.proofs.lemmas.List.{length-append, length-map}
use Rattle.std.proofs.lemmas.Bool.{lt-ltb, not-true, and_parts}
use Rattle.std.proofs.Math.Bool.{not-not}
use Rattle.mig_base.specs.declared.kinds.Kind.{Kind}
use Rattle.mig_base.specs.declared.kinds.Mode.TheVariants.{Fixed}
use Rattle.mig_base.specs.declared.cells.Lit.{Lit}
use Rattle.mig_base.specs.declared.cells.Row.{Row}
use Rattle.mig_base.specs.declared.cells.Row.TheVariants as row
use Rattle.mig_base.specs.declared.cells.Enable.{Enable}
use Rattle.mig_base.specs.declared.cells.Enable.TheVariants as enable
use Rattle.mig_base.specs.declared.cells.Form.{Form}
use Rattle.mig_base.specs.declared.cells.Form.TheVariants as form
use Rattle.mig_base.specs.declared.cells.Cell.{Cell}
use Rattle.mig_base.specs.DeviceTables.{enable_pin, rows_22, is_22, is_v8, is_gal}
use Rattle.mig_base.specs.Cells as cells
use Rattle.mig_base.specs.WellFormed.{is_never, has_enable_row, is_low_pin, FitsCell, has_enable, has_inversions, most_terms, fits_row, fits_control}
use Rattle.mig_base.specs.WrittenCells.{enable_rows, cell_rows}
use Rattle.mig_base.proofs.ListLaws.{all-append}
use Rattle.devices.proofs.RowLaws.{FitsColumns}
use Rattle.devices.proofs.V22Tables.{IsV22Table}
use Rattle.devices.proofs.MacrocellLaws.{cell_with, idle-is, comb-terms, terms-read, one-enable, filled-long, own_rows, never-fits, terms-fit, enable-row-fits, never-row-fits}
use Rattle.mig_base.specs.Written22.{row_count, rows_of_cell, s0_fuse, s1_fuse}

-- made again

-- a cell of so many rows, read from its own settings and rows
abbrev pub of_cell : ℕ → Cell → Cell
of_cell n cell = if s1_fuse cell
    then cells.comb_cell cell.pin (not (s0_fuse cell)) (cell_rows Fixed n cell)
    else cells.reg_cell_22 cell.pin (not (s0_fuse cell)) (cell_rows Fixed n cell)

abbrev term_rows : List (List Lit) → List Row
term_rows terms = map (λ (lits : List Lit). row.Product lits) terms

comb-again : (n pin : ℕ) (low : Bool) (columns : List Lit) (e : Enable) (terms : List (List Lit)) → has_enable_row columns e ≡ true →
    of_cell n (cell_with pin form.Comb low false e terms) ≡ cell_with pin form.Comb low false e terms
comb-again n pin low columns enable.Never terms h = cc
comb-again n pin low columns (enable.LowPin p) terms h = cc
comb-again n pin low columns (enable.Term []) terms h = cc
comb-again n pin low columns enable.Always terms h = comb-terms pin low enable.Always terms (n - suc (length (term_rows terms)))
comb-again n pin low columns (enable.Term (l ∷ ls)) terms h = comb-terms pin low (enable.Term (l ∷ ls)) terms (n - suc (length (term_rows terms)))

reg-terms : (pin : ℕ) (pin_low : Bool) (e : Enable) (terms : List (List Lit)) (n : ℕ) →
    cell_with pin form.Reg false (not (not pin_low)) e (cells.terms_of (term_rows terms ++ replicate n row.Never)) ≡ cell_with pin form.Reg false pin_low e terms
reg-terms pin pin_low e terms n =
    ap (λ (b : Bool). cell_with pin form.Reg false b e (cells.terms_of (term_rows terms ++ replicate n row.Never))) (not-not pin_low)
    ∙ ap (cell_with pin form.Reg false pin_low e) (terms-read terms n)

reg-again : (n pin : ℕ) (pin_low : Bool) (columns : List Lit) (e : Enable) (terms : List (List Lit)) → (is_never e || has_enable_row columns e) ≡ true →
    of_cell n (cell_with pin form.Reg false pin_low e terms) ≡ cell_with pin form.Reg false pin_low e terms
reg-again n pin pin_low columns (enable.LowPin p) terms h = cc
reg-again n pin pin_low columns (enable.Term []) terms h = cc
reg-again n pin pin_low columns enable.Never terms h = reg-terms pin pin_low enable.Never terms (n - suc (length (term_rows terms)))
reg-again n pin pin_low columns enable.Always terms h = reg-terms pin pin_low enable.Always terms (n - suc (length (term_rows terms)))
reg-again n pin pin_low columns (enable.Term (l ∷ ls)) terms h = reg-terms pin pin_low (enable.Term (l ∷ ls)) terms (n - suc (length (term_rows terms)))

reg-enable : (k : Kind) (columns : List Lit) (e : Enable) → IsV22Table k → has_enable k Fixed columns form.Reg e ≡ true → (is_never e || has_enable_row columns e) ≡ true
reg-enable k columns e t h = subst (λ (b : Bool). (if b then is_never e || has_enable_row columns e else is_low_pin (enable_pin k) e) ≡ true) t.is h

reg-low : (k : Kind) (low pin_low : Bool) → IsV22Table k → has_inversions k form.Reg low pin_low ≡ true → low ≡ false
reg-low k low pin_low t h = not-true low (subst (λ (b : Bool). (b || not low) ≡ true) t.not_v8 (and_parts (is_v8 k || not low) (is_22 k || pin_low) h).0)

cell-by : (n : ℕ) (k : Kind) (columns : List Lit) (pin : ℕ) (f : Form) (low pin_low : Bool) (e : Enable) (terms : List (List Lit)) → IsV22Table k →
    has_inversions k f low pin_low ≡ true → has_enable k Fixed columns f e ≡ true → length terms ≤ most_terms k Fixed pin f →
    of_cell n (cell_with pin f low pin_low e terms) ≡ cell_with pin f low pin_low e terms
cell-by n k columns pin form.Idle low pin_low e terms t hi he m =
    let is = idle-is pin low pin_low e terms hi he m in
    ap (of_cell n) is ∙ sym is
cell-by n k columns pin form.Comb low pin_low e terms t hi he m =
    let shown : false ≡ pin_low = sym (not-true pin_low (and_parts (is_gal k || low) (not pin_low) hi).1) in
    subst (λ (b : Bool). of_cell n (cell_with pin form.Comb low b e terms) ≡ cell_with pin form.Comb low b e terms) shown (comb-again n pin low columns e terms he)
cell-by n k columns pin form.Reg low pin_low e terms t hi he m =
    subst (λ (b : Bool). of_cell n (cell_with pin form.Reg b pin_low e terms) ≡ cell_with pin form.Reg b pin_low e terms) (sym (reg-low k low pin_low t hi))
    (reg-again n pin pin_low columns e terms (reg-enable k columns e t he))

-- a cell that fits is made again
pub cell-again : (n : ℕ) (k : Kind) (columns : List Lit) (cell : Cell) → IsV22Table k → FitsCell k Fixed columns cell → of_cell n cell ≡ cell
cell-again n k columns cell t h = cell-by n k columns cell.pin cell.form cell.low cell.pin_low cell.enable cell.terms t h.inversions h.enable h.count

-- how many rows

most : (k : Kind) (pin : ℕ) (f : Form) (n : ℕ) → IsV22Table k → n ≤ most_terms k Fixed pin f → n ≤ (rows_22 pin).1
most k pin form.Idle n t h = omega arith
most k pin form.Comb n t h = subst (λ (b : Bool). n ≤ (if b then (rows_22 pin).1 else 7)) t.is h
most k pin form.Reg n t h = subst (λ (b : Bool). n ≤ (if b then (rows_22 pin).1 else 8)) t.is h

pub rows-long : (k : Kind) (columns : List Lit) (cell : Cell) → IsV22Table k → FitsCell k Fixed columns cell → length (rows_of_cell Fixed cell) ≡ row_count cell.pin
rows-long k columns cell t h =
    let few : length cell.terms ≤ (rows_22 cell.pin).1 = most k cell.pin cell.form (length cell.terms) t h.count in
    let one : length (enable_rows Fixed cell.enable) ≤ 1 = one-enable Fixed cell.enable in
    let long : length (own_rows Fixed cell) ≡ length (enable_rows Fixed cell.enable) + length cell.terms =
    length-append (enable_rows Fixed cell.enable) (term_rows cell.terms)
    ∙ ap (λ (n : ℕ). length (enable_rows Fixed cell.enable) + n) (length-map cell.terms (λ (lits : List Lit). row.Product lits)) in
    filled-long (row_count cell.pin) (own_rows Fixed cell) (omega arith)

-- rows that fit

reg-row-fits : (columns : List Lit) (e : Enable) → 0 < length columns → (is_never e || has_enable_row columns e) ≡ true → AllByRecursion (FitsColumns columns) (enable_rows Fixed e)
reg-row-fits columns enable.Never n h = (tt, tt)
reg-row-fits columns enable.Always n h = (lt-ltb 0 (length columns) n, tt)
reg-row-fits columns (enable.LowPin p) n h = cc
reg-row-fits columns (enable.Term []) n h = cc
reg-row-fits columns (enable.Term (l ∷ ls)) n h = (h, tt)

enable-fits : (k : Kind) (columns : List Lit) (f : Form) (e : Enable) → IsV22Table k → 0 < length columns → has_enable k Fixed columns f e ≡ true →
    AllByRecursion (FitsColumns columns) (enable_rows Fixed e)
enable-fits k columns form.Idle e t n h = never-row-fits columns Fixed e h
enable-fits k columns form.Comb e t n h = enable-row-fits columns Fixed e n h
enable-fits k columns form.Reg e t n h = reg-row-fits columns e n (reg-enable k columns e t h)

pub rows-fit : (k : Kind) (columns : List Lit) (cell : Cell) → IsV22Table k → 0 < length columns → FitsCell k Fixed columns cell →
    AllByRecursion (FitsColumns columns) (rows_of_cell Fixed cell)
rows-fit k columns cell t n h =
    let first = enable-fits k columns cell.form cell.enable t n h.enable in
    let own = all-append (FitsColumns columns) (enable_rows Fixed cell.enable) (term_rows cell.terms) first (terms-fit columns cell.terms h.terms) in
    all-append (FitsColumns columns) (own_rows Fixed cell) (replicate (row_count cell.pin - length (own_rows Fixed cell)) row.Never) own (never-fits columns (row_count cell.pin - length (own_rows Fixed cell)))

-- a reset or preset row
pub control-fits : (k : Kind) (columns : List Lit) (r : Row) → fits_control k columns r ≡ true → FitsColumns columns r
control-fits k columns row.Never h = tt
control-fits k columns (row.Product lits) h = (and_parts (is_22 k) (fits_row columns lits) h).1
