-- What the cells of a PAL read: literals of its columns.
use Rattle.std.proofs.Common.{ℕ, zero, suc, ◌≡◌, ◌+◌, ◌*◌, Bool, true, false, not, cond, List, [], ◌∷◌, length, Some, Ok, Err, refl, sym, ap, ◌∙◌, subst, inl, inr, eqb}
use Rattle.std.specs.Prelude.{Result}
use Rattle.std.specs.List.{list_all}
use Rattle.std.proofs.lemmas.Option.{same_Some}
use Rattle.mig_base.specs.declared.kinds.Kind.{Kind}
use Rattle.mig_base.specs.declared.kinds.Kind.TheVariants.{Pal16L8, Pal16R4, Pal16R6, Pal16R8, Gal16V8}
use Rattle.mig_base.specs.declared.kinds.Mode.{Mode}
use Rattle.mig_base.specs.declared.kinds.Mode.TheVariants.{Fixed}
use Rattle.mig_base.specs.declared.cells.Source.TheVariants.{Pin, Reg}
use Rattle.mig_base.specs.declared.cells.Lit.{Lit}
use Rattle.mig_base.specs.declared.cells.Row.{Row}
use Rattle.mig_base.specs.declared.cells.Row.TheVariants as row
use Rattle.mig_base.specs.declared.cells.Enable.TheVariants as enable
use Rattle.mig_base.specs.declared.cells.Form.TheVariants as form
use Rattle.mig_base.specs.declared.cells.Cell.{Cell}
use Rattle.mig_base.specs.declared.cells.ChipCells.{ChipCells}
use Rattle.mig_base.specs.declared.cells.ChipError.{ChipError}
use Rattle.mig_base.specs.declared.cells.ChipError.TheVariants.{Count}
use Rattle.mig_base.specs.declared.nets.Net.{Net}
use Rattle.mig_base.specs.declared.circuit.Gate.TheVariants.{Product}
use Rattle.mig_base.specs.First.{made_from}
use Rattle.mig_base.specs.Among.{Among}
use Rattle.mig_base.specs.DeviceTables.{is_pal16, pair_pins, cell_pins, ordinary_pins, enable_pin, pal_registers, array_width, even_reads_q, is_22, has_count}
use Rattle.mig_base.specs.Cells.{row_at, is_among, pair_columns, columns_of, lits_of, term_of, terms_of, enable_of, comb_by, comb_cell, reg_cell, cell_place, pal_row, pal_rows, pal_cell, pal_cells, cells_by_kind, cells_of}
use Rattle.mig_base.specs.Boards.{ChipUnit, literals_of, enable_on, makes_unit}
use Rattle.mig_base.specs.WrittenBoard.{are_distinct}
use Rattle.new_board.specs.OneForOne.{gal_kind, gal_mode}
use Rattle.new_board.proofs.Items.{among-unfilter_map}

-- a literal of a column
pub record IsColumnLit (k : Kind) (x : Lit) : Type 0 where
  pub pin : ℕ
  pub column : Among pin (pair_pins k Fixed)
  pub source : x.source ≡ cond (is_among (pal_registers k) pin) (Reg pin) (Pin pin)

lit-source : (registered even_q : Bool) (pin : ℕ) (even : Bool) →
    (cond {A = Lit} registered (record { source = Reg pin; high = cond even_q even (not even) }) (record { source = Pin pin; high = even })).source ≡ cond registered (Reg pin) (Pin pin)
lit-source true even_q pin even = refl
lit-source false even_q pin even = refl

column-lit : (even_q : Bool) (registers : List ℕ) (pins : List ℕ) (x : Lit) → Among x (pair_columns even_q registers pins) →
    (pin : ℕ) × Among pin pins × (x.source ≡ cond (is_among registers pin) (Reg pin) (Pin pin))
column-lit even_q registers [] x a = absurd a
column-lit even_q registers (p ∷ ps) x (inl e) = (p, inl refl, ap (λ (y : Lit). y.source) e ∙ lit-source (is_among registers p) even_q p true)
column-lit even_q registers (p ∷ ps) x (inr (inl e)) = (p, inl refl, ap (λ (y : Lit). y.source) e ∙ lit-source (is_among registers p) even_q p false)
column-lit even_q registers (p ∷ ps) x (inr (inr a)) = let r = column-lit even_q registers ps x a in (r.0, inr r.1, r.2)

among-lits : (columns : List Lit) (bits : List Bool) (x : Lit) → Among x (lits_of columns bits) → Among x columns
among-lits [] bits x a = absurd a
among-lits (c ∷ cs) [] x a = absurd a
among-lits (c ∷ cs) (true ∷ bits) x a = inr (among-lits cs bits x a)
among-lits (c ∷ cs) (false ∷ bits) x (inl e) = inl e
among-lits (c ∷ cs) (false ∷ bits) x (inr a) = inr (among-lits cs bits x a)

-- the literals of a product
pub record AreColumnLits (k : Kind) (lits : List Lit) : Type 0 where
  pub each : (x : Lit) → Among x lits → IsColumnLit k x

row-lits : (k : Kind) (bits : List Bool) (r : ℕ) (lits : List Lit) → pal_row k bits r ≡ row.Product lits → AreColumnLits k lits
row-lits k bits r lits e = record { each = at (list_all not (row_at (array_width k) bits r)) e }
  where
    at : (q : Bool) → cond q row.Never (row.Product (lits_of (columns_of k Fixed (pal_registers k)) (row_at (array_width k) bits r))) ≡ row.Product lits →
        (x : Lit) → Among x lits → IsColumnLit k x
    at true e x a = cc
    at false e x a =
        let same : lits_of (columns_of k Fixed (pal_registers k)) (row_at (array_width k) bits r) ≡ lits = cc in
        let found = column-lit (even_reads_q k) (pal_registers k) (pair_pins k Fixed) x
        (among-lits (columns_of k Fixed (pal_registers k)) (row_at (array_width k) bits r) x (subst (λ (ls : List Lit). Among x ls) (sym same) a)) in
        record { pin = found.0; column = found.1; source = found.2 }

unmade : {T : Type 0} (f : ℕ → T) (start count : ℕ) (x : T) → Among x (made_from f start count) → (n : ℕ) × (x ≡ f n)
unmade f start zero x a = absurd a
unmade f start (suc count) x (inl e) = (start, e)
unmade f start (suc count) x (inr a) = unmade f (start + 1) count x a

term-of : (r : Row) (t : List Lit) → term_of r ≡ Some t → r ≡ row.Product t
term-of row.Never t e = cc
term-of (row.Product lits) t e = ap (λ (q : List Lit). row.Product q) (same_Some lits t e)

terms-lits : (k : Kind) (bits : List Bool) (start count : ℕ) (t : List Lit) → Among t (terms_of (made_from (pal_row k bits) start count)) → AreColumnLits k t
terms-lits k bits start count t a =
    let found = among-unfilter_map term_of t (made_from (pal_row k bits) start count) a in
    let made = unmade (pal_row k bits) start count found.0 found.1 in
    row-lits k bits made.0 t (sym made.1 ∙ term-of found.0 t found.2)

-- a combinational cell: its enable and its terms read columns
pub record IsCombCell (k : Kind) (cell : Cell) : Type 0 where
  pub form_is : cell.form ≡ form.Comb
  pub lits : List Lit
  pub enable : cell.enable ≡ enable_of (row.Product lits)
  pub enable_lits : AreColumnLits k lits
  pub terms_lits : (t : List Lit) → Among t cell.terms → AreColumnLits k t

-- a registered cell: enabled by the enable pin, inverting
pub record IsRegCell (k : Kind) (cell : Cell) : Type 0 where
  pub form_is : cell.form ≡ form.Reg
  pub enable : cell.enable ≡ enable.LowPin (enable_pin k)
  pub low : cell.low ≡ false
  pub pin_low : cell.pin_low ≡ true
  pub terms_lits : (t : List Lit) → Among t cell.terms → AreColumnLits k t

comb-pin : (pin : ℕ) (low : Bool) (rows : List Row) → (comb_cell pin low rows).pin ≡ pin
comb-pin pin low [] = refl
comb-pin pin low (row.Never ∷ rows) = refl
comb-pin pin low (row.Product lits ∷ rows) = refl

pub pal-pin : (k : Kind) (bits : List Bool) (pin : ℕ) → (pal_cell k bits pin).pin ≡ pin
pal-pin k bits pin = at (is_among (pal_registers k) pin)
  where
    at : (q : Bool) → (cond q (reg_cell pin false (enable_pin k) (pal_rows k bits pin)) (comb_cell pin true (pal_rows k bits pin))).pin ≡ pin
    at true = refl
    at false = comb-pin pin true (pal_rows k bits pin)

pub pal-comb : (k : Kind) (bits : List Bool) (pin : ℕ) → is_among (pal_registers k) pin ≡ false → makes_unit false (pal_cell k bits pin).form ≡ true → IsCombCell k (pal_cell k bits pin)
pal-comb k bits pin e unit =
    subst (IsCombCell k) (sym is) (by (pal_row k bits start) refl (sym (ap (λ (c : Cell). makes_unit false c.form) is) ∙ unit))
  where
    start : ℕ
    start = 8 * cell_place k pin

    is : pal_cell k bits pin ≡ comb_by pin true (pal_row k bits start) (made_from (pal_row k bits) (start + 1) 7)
    is = ap (λ (q : Bool). cond q (reg_cell pin false (enable_pin k) (pal_rows k bits pin)) (comb_cell pin true (pal_rows k bits pin))) e

    by : (r : Row) → pal_row k bits start ≡ r → makes_unit false (comb_by pin true r (made_from (pal_row k bits) (start + 1) 7)).form ≡ true →
        IsCombCell k (comb_by pin true r (made_from (pal_row k bits) (start + 1) 7))
    by row.Never f unit = cc
    by (row.Product lits) f unit = record {
      form_is = refl;
      lits = lits;
      enable = refl;
      enable_lits = row-lits k bits start lits f;
      terms_lits = λ t a. terms-lits k bits (start + 1) 7 t a;
    }

pub pal-reg : (k : Kind) (bits : List Bool) (pin : ℕ) → is_among (pal_registers k) pin ≡ true → IsRegCell k (pal_cell k bits pin)
pal-reg k bits pin e = subst (IsRegCell k)
    (sym (ap (λ (q : Bool). cond q (reg_cell pin false (enable_pin k) (pal_rows k bits pin)) (comb_cell pin true (pal_rows k bits pin))) e))
    (record { form_is = refl; enable = refl; low = refl; pin_low = refl; terms_lits = λ t a. terms-lits k bits (8 * cell_place k pin) 8 t a })

-- an enable row on a board
pub enable-product : (net : Net) (units : List ChipUnit) (j : ℕ) (lits : List Lit) → enable_on net units j (enable_of (row.Product lits)) ≡ Product (literals_of net units j lits)
enable-product net units j [] = refl
enable-product net units j (x ∷ xs) = refl

-- the tables of a PAL16 and its GAL16V8
pub record IsPal16Table (k : Kind) : Type 0 where
  pub pairs : (mode : Mode) → pair_pins Gal16V8 (gal_mode k mode) ≡ pair_pins k Fixed
  pub cells : cell_pins Gal16V8 ≡ cell_pins k
  pub distinct : are_distinct eqb (cell_pins k) ≡ true
  pub gal : gal_kind k ≡ Gal16V8
  pub ordinary : ordinary_pins k ≡ ordinary_pins Gal16V8
  pub columns_ordinary : list_all (is_among (ordinary_pins Gal16V8)) (pair_pins k Fixed) ≡ true
  pub cells_ordinary : list_all (is_among (ordinary_pins Gal16V8)) (cell_pins k) ≡ true
  pub not_22 : is_22 k ≡ false
  pub enable : enable_pin k ≡ 11
  pub clock_no_cell : is_among (cell_pins k) 1 ≡ false
  pub enable_no_cell : is_among (cell_pins k) 11 ≡ false
  pub clock_apart : is_among (pair_pins k Fixed) 1 ≡ true → pal_registers k ≡ []
  pub enable_apart : is_among (pair_pins k Fixed) 11 ≡ true → pal_registers k ≡ []
  pub registers_cells : list_all (is_among (cell_pins k)) (pal_registers k) ≡ true
  pub registers_columns : list_all (is_among (pair_pins k Fixed)) (pal_registers k) ≡ true

pub pal16-table : (k : Kind) → is_pal16 k ≡ true → IsPal16Table k
pal16-table Pal16L8 e = record { pairs = λ mode. refl; cells = refl; distinct = refl; gal = refl; ordinary = refl; columns_ordinary = refl; cells_ordinary = refl; not_22 = refl; enable = refl; clock_no_cell = refl; enable_no_cell = refl; clock_apart = λ h. refl; enable_apart = λ h. refl; registers_cells = refl; registers_columns = refl }
pal16-table Pal16R4 e = record { pairs = λ mode. refl; cells = refl; distinct = refl; gal = refl; ordinary = refl; columns_ordinary = refl; cells_ordinary = refl; not_22 = refl; enable = refl; clock_no_cell = refl; enable_no_cell = refl; clock_apart = λ h. cc; enable_apart = λ h. cc; registers_cells = refl; registers_columns = refl }
pal16-table Pal16R6 e = record { pairs = λ mode. refl; cells = refl; distinct = refl; gal = refl; ordinary = refl; columns_ordinary = refl; cells_ordinary = refl; not_22 = refl; enable = refl; clock_no_cell = refl; enable_no_cell = refl; clock_apart = λ h. cc; enable_apart = λ h. cc; registers_cells = refl; registers_columns = refl }
pal16-table Pal16R8 e = record { pairs = λ mode. refl; cells = refl; distinct = refl; gal = refl; ordinary = refl; columns_ordinary = refl; cells_ordinary = refl; not_22 = refl; enable = refl; clock_no_cell = refl; enable_no_cell = refl; clock_apart = λ h. cc; enable_apart = λ h. cc; registers_cells = refl; registers_columns = refl }
pal16-table _ e = cc

-- the cells of right fuses
pub pal-cells : (k : Kind) (bits : List Bool) (c : ChipCells) → is_pal16 k ≡ true → cells_of k bits ≡ Ok c → c ≡ pal_cells k bits
pal-cells k bits c pal e = at (has_count k (length bits)) e
  where
    made : (k : Kind) → is_pal16 k ≡ true → cells_by_kind k bits ≡ Ok (pal_cells k bits)
    made Pal16L8 e = refl
    made Pal16R4 e = refl
    made Pal16R6 e = refl
    made Pal16R8 e = refl
    made _ e = cc

    same : (x y : ChipCells) → ◌≡◌ {A = Result ChipCells ChipError} (Ok x) (Ok y) → y ≡ x
    same x y e = cc

    at : (q : Bool) → cond q (cells_by_kind k bits) (Err (Count (length bits))) ≡ Ok c → c ≡ pal_cells k bits
    at true e = same (pal_cells k bits) c (sym (made k pal) ∙ e)
    at false e = cc
