-- The cells of a new chip are such as fuses make, where its units keep the rules of its kind and mode and no row is full.
use Rattle.std.proofs.Common.{ℕ, ◌≡◌, ◌<◌, ◌≤◌, Bool, true, false, not, cond, ◌&&◌, ◌||◌, List, [], ◌∷◌, map, length, Option, Some, None, is_some, refl, sym, ap, ◌∙◌, subst, inl, inr, ◌⊎◌, eqb, eqb-true, eq-eqb, lt-ltb, arith, IsTrue}
use Rattle.std.specs.Prelude.{option_and_then}
use Rattle.std.specs.List.{list_any, filter, slice_get, AllByRecursion}
use Rattle.std.proofs.lemmas.Bool.{and_from, cases_lt, or_right}
use Rattle.std.proofs.lemmas.List.{length-map}
use Rattle.mig_base.specs.declared.kinds.Kind.{Kind}
use Rattle.mig_base.specs.declared.kinds.Kind.TheVariants.{Gal16V8, Gal20V8, Gal22V10, Gal22V10Q}
use Rattle.mig_base.specs.declared.kinds.Mode.{Mode}
use Rattle.mig_base.specs.declared.cells.Source.TheVariants.{Pin, Reg}
use Rattle.mig_base.specs.declared.cells.Lit.{Lit}
use Rattle.mig_base.specs.declared.cells.Enable.{Enable}
use Rattle.mig_base.specs.declared.cells.Enable.TheVariants as enable
use Rattle.mig_base.specs.declared.cells.Form.TheVariants as form
use Rattle.mig_base.specs.declared.cells.Cell.{Cell}
use Rattle.mig_base.specs.declared.circuit.Literal.{Literal}
use Rattle.mig_base.specs.declared.circuit.Gate.{Gate}
use Rattle.mig_base.specs.declared.circuit.Gate.TheVariants.{Never, Product}
use Rattle.mig_base.specs.Among.{Among}
use Rattle.mig_base.specs.DeviceTables.{cell_pins, pal_registers, enable_pin, is_22, is_gal}
use Rattle.mig_base.specs.Cells.{is_among, columns_of, pair_columns, lit_of, idle}
use Rattle.mig_base.specs.WellFormed.{FitsCell, IsWellFormed, fits_row, fits_control, has_mode, has_form, has_inversions, has_enable_row, is_simple, is_always, is_never, is_low_pin, is_reg, most_terms, registers_in, chip_columns, rises_in}
use Rattle.mig_base.proofs.Amongs.{map-among, among-map, any-among, among-any, all-among, among-left, among-right}
use Rattle.mig_base.proofs.ListLaws.{both-ways}
use Rattle.new_board.proofs.Items.{among-filter, among-unfilter}
use Rattle.new_board.specs.declared.types.PlacedUnit.{PlacedUnit}
use Rattle.new_board.specs.NewChip.{OldBoard, NewChip, unit_on, placed_register, register_on, is_registered_unit, first_registered, unit_products, products_by, comb_products, gate_products, controls_of, control_products}
use Rattle.new_board.specs.NewFiles.{registered_pins, new_columns, new_product, new_terms, new_enable, new_row, new_comb, new_reg, pin_low_of, cell_by, cell_of, new_cell, reset_gate, preset_gate, new_cells, is_full, has_full_row}
use Rattle.new_board.proofs.Columns.{RegistersFit, IsReadable, first-among}
use Rattle.new_board.proofs.BuiltRows.{filter-short, new-rises, new-enable}
use Rattle.new_board.proofs.NewWiring.{cell-pin}

-- a product that is not full fits a row

less-than : (n m : ℕ) → n ≤ m → eqb n m ≡ false → n < m
less-than n m h e = at (cases_lt n m)
  where
    same : m ≤ n → n ≡ m
    same g = omega (arith, h, g)

    at : (n < m) ⊎ (m ≤ n) → n < m
    at (inl g) = g
    at (inr g) = let wrong : true ≡ false = sym (eq-eqb n m (same g)) ∙ e in cc

pub not-full : (b : OldBoard) (chip : NewChip) (lits : List Literal) → is_full b chip lits ≡ false → fits_row (new_columns b chip) (new_product b chip lits) ≡ true
not-full b chip lits e =
    and_from (rises_in (new_columns b chip) (new_product b chip lits)) _ (new-rises b chip lits)
    (lt-ltb (length (new_product b chip lits)) (length (new_columns b chip)) (less-than (length (new_product b chip lits)) (length (new_columns b chip)) (filter-short _ (new_columns b chip)) e))

-- what is asked of a unit: a combinational one in simple mode is always enabled, and each has the form and the inversions that its cell takes
abbrev pub IsFitBy : OldBoard → NewChip → PlacedUnit → Option ℕ → Type 0
IsFitBy b chip x None = (length x.terms ≤ most_terms chip.kind chip.mode x.pin form.Comb) × (is_simple chip.mode ≡ true → x.enable ≡ Product [])
IsFitBy b chip x (Some k) =
    (length x.terms ≤ most_terms chip.kind chip.mode x.pin form.Reg) × (has_form chip.kind chip.mode x.pin form.Reg ≡ true)
    × (has_inversions chip.kind form.Reg x.low (pin_low_of (slice_get b.circuit.units x.unit)) ≡ true)

pub record IsFitUnit (b : OldBoard) (chip : NewChip) (x : PlacedUnit) : Type 0 where
  pub cell : Among x.pin (cell_pins chip.kind)
  pub on : unit_on chip.units x.pin ≡ Some x
  pub form : IsFitBy b chip x (placed_register b.circuit x)
  pub readable : (lits : List Literal) → Among lits (unit_products b.circuit chip x) → IsReadable b chip lits
  pub not_full : has_full_row b chip x ≡ false

-- and of a chip: one of its kind's modes, and on a V8 no reset and no preset
pub record IsFitChip (b : OldBoard) (chip : NewChip) : Type 0 where
  pub gal : is_gal chip.kind ≡ true
  pub mode : has_mode chip.kind chip.mode ≡ true
  pub units : (x : PlacedUnit) → Among x chip.units → IsFitUnit b chip x
  pub no_reset : is_22 chip.kind ≡ false → reset_gate (first_registered b.circuit chip) ≡ Never
  pub no_preset : is_22 chip.kind ≡ false → preset_gate (first_registered b.circuit chip) ≡ Never

-- the unit on a pin

pub on-unit : (xs : List PlacedUnit) (pin : ℕ) (x : PlacedUnit) → unit_on xs pin ≡ Some x → Among x xs × (x.pin ≡ pin)
on-unit [] pin x e = cc
on-unit (y ∷ ys) pin x e = at (eqb y.pin pin) refl e (on-unit ys pin x)
  where
    at : (q : Bool) → eqb y.pin pin ≡ q → cond q (Some y) (unit_on ys pin) ≡ Some x → (unit_on ys pin ≡ Some x → Among x ys × (x.pin ≡ pin)) → Among x (y ∷ ys) × (x.pin ≡ pin)
    at true h e rest = let same : y ≡ x = cc in (inl (sym same), ap (λ (z : PlacedUnit). z.pin) (sym same) ∙ eqb-true y.pin pin h)
    at false h e rest = let r = rest e in (inr r.0, r.1)

-- registered pins and registered cells

pub registers-fit : (b : OldBoard) (chip : NewChip) → IsFitChip b chip → RegistersFit b chip
registers-fit b chip fit = record { each = λ pin. both-ways _ _ (there pin) (back pin) }
  where
    there : (pin : ℕ) → is_among (registered_pins b chip) pin ≡ true → is_some (register_on b.circuit chip pin) ≡ true
    there pin e =
        let p = any-among (λ p. eqb p pin) (registered_pins b chip) e in
        let x = among-map (λ (x : PlacedUnit). x.pin) p.0 (filter (is_registered_unit b.circuit) chip.units) p.1 in
        let kept = among-unfilter (is_registered_unit b.circuit) x.0 chip.units x.1 in
        let same : x.0.pin ≡ pin = sym x.2 ∙ eqb-true p.0 pin p.2 in
        ap (λ (q : ℕ). is_some (register_on b.circuit chip q)) (sym same)
        ∙ ap (λ (o : Option PlacedUnit). is_some (option_and_then (placed_register b.circuit) o)) (fit.units x.0 kept.0).on ∙ kept.1

    back : (pin : ℕ) → is_some (register_on b.circuit chip pin) ≡ true → is_among (registered_pins b chip) pin ≡ true
    back pin e = at (unit_on chip.units pin) refl e
      where
        at : (o : Option PlacedUnit) → unit_on chip.units pin ≡ o → is_some (option_and_then (placed_register b.circuit) o) ≡ true → is_among (registered_pins b chip) pin ≡ true
        at None is e = cc
        at (Some x) is e =
            let found = on-unit chip.units pin x is in
            among-any (λ p. eqb p pin) x.pin (registered_pins b chip)
            (map-among (λ (x : PlacedUnit). x.pin) x (filter (is_registered_unit b.circuit) chip.units) (among-filter (is_registered_unit b.circuit) x chip.units found.0 e))
            (eq-eqb x.pin pin found.1)

comb-unregistered : (b : OldBoard) (chip : NewChip) (pin : ℕ) (x : PlacedUnit) (g : Gate) → is_reg (new_comb b chip pin x g).form ≡ false
comb-unregistered b chip pin x Never = refl
comb-unregistered b chip pin x (Product lits) = refl

by-registered : (b : OldBoard) (chip : NewChip) (pin : ℕ) (x : PlacedUnit) (o : Option ℕ) → is_reg (cell_by b chip pin x o).form ≡ is_some o
by-registered b chip pin x None = comb-unregistered b chip pin x x.enable
by-registered b chip pin x (Some k) = refl

of-registered : (b : OldBoard) (chip : NewChip) (pin : ℕ) (o : Option PlacedUnit) → is_reg (cell_of b chip pin o).form ≡ is_some (option_and_then (placed_register b.circuit) o)
of-registered b chip pin None = refl
of-registered b chip pin (Some x) = by-registered b chip pin x (placed_register b.circuit x)

cell-registered : (b : OldBoard) (chip : NewChip) (pin : ℕ) → is_reg (new_cell b chip pin).form ≡ is_some (register_on b.circuit chip pin)
cell-registered b chip pin = of-registered b chip pin (unit_on chip.units pin)

cells-registered : (b : OldBoard) (chip : NewChip) → IsFitChip b chip → (pin : ℕ) → is_among (registers_in (new_cells b chip).cells) pin ≡ is_among (registered_pins b chip) pin
cells-registered b chip fit pin = both-ways _ _ (λ e. registers.each pin ∙ there e) (λ e. back (sym (registers.each pin) ∙ e))
  where
    registers : RegistersFit b chip
    registers = registers-fit b chip fit

    cells : List Cell
    cells = map (new_cell b chip) (cell_pins chip.kind)

    there : is_among (registers_in (map (new_cell b chip) (cell_pins chip.kind))) pin ≡ true → is_some (register_on b.circuit chip pin) ≡ true
    there e =
        let p = any-among (λ p. eqb p pin) (registers_in (map (new_cell b chip) (cell_pins chip.kind))) e in
        let cell = among-map (λ (c : Cell). c.pin) p.0 (filter (λ (c : Cell). is_reg c.form) (map (new_cell b chip) (cell_pins chip.kind))) p.1 in
        let kept = among-unfilter (λ (c : Cell). is_reg c.form) cell.0 (map (new_cell b chip) (cell_pins chip.kind)) cell.1 in
        let q = among-map (new_cell b chip) cell.0 (cell_pins chip.kind) kept.0 in
        let same : q.0 ≡ pin = sym (cell-pin b chip q.0) ∙ sym (ap (λ (c : Cell). c.pin) q.2) ∙ sym cell.2 ∙ eqb-true p.0 pin p.2 in
        ap (λ (k : ℕ). is_some (register_on b.circuit chip k)) (sym same) ∙ sym (cell-registered b chip q.0) ∙ sym (ap (λ (c : Cell). is_reg c.form) q.2) ∙ kept.1

    back : is_some (register_on b.circuit chip pin) ≡ true → is_among (registers_in (map (new_cell b chip) (cell_pins chip.kind))) pin ≡ true
    back e = at (unit_on chip.units pin) refl
      where
        at : (o : Option PlacedUnit) → unit_on chip.units pin ≡ o → is_among (registers_in (map (new_cell b chip) (cell_pins chip.kind))) pin ≡ true
        at None is = let wrong : false ≡ true = sym (ap (λ (o : Option PlacedUnit). is_some (option_and_then (placed_register b.circuit) o)) is) ∙ e in cc
        at (Some x) is =
            let found = on-unit chip.units pin x is in
            let its : Among pin (cell_pins chip.kind) = subst (λ (q : ℕ). Among q (cell_pins chip.kind)) found.1 (fit.units x found.0).cell in
            among-any (λ p. eqb p pin) (new_cell b chip pin).pin (registers_in (map (new_cell b chip) (cell_pins chip.kind)))
            (map-among (λ (c : Cell). c.pin) (new_cell b chip pin) (filter (λ (c : Cell). is_reg c.form) (map (new_cell b chip) (cell_pins chip.kind)))
            (among-filter (λ (c : Cell). is_reg c.form) (new_cell b chip pin) (map (new_cell b chip) (cell_pins chip.kind)) (map-among (new_cell b chip) pin (cell_pins chip.kind) its) (cell-registered b chip pin ∙ e)))
            (eq-eqb (new_cell b chip pin).pin pin (cell-pin b chip pin))

-- the columns depend on which pins are registered alone
abbrev lit_by : Bool → Bool → ℕ → Bool → Lit
lit_by even_q registered pin even = cond registered (record { source = Reg pin; high = cond even_q even (not even) }) (record { source = Pin pin; high = even })

pub columns-alike : (k : Kind) (mode : Mode) (rs ss : List ℕ) → ((pin : ℕ) → is_among rs pin ≡ is_among ss pin) → columns_of k mode rs ≡ columns_of k mode ss
columns-alike k mode rs ss h = pairs _ _
  where
    pairs : (even_q : Bool) (pins : List ℕ) → pair_columns even_q rs pins ≡ pair_columns even_q ss pins
    pairs even_q [] = refl
    pairs even_q (p ∷ ps) =
        ap (λ (q : Bool). lit_by even_q q p true ∷ lit_by even_q q p false ∷ pair_columns even_q rs ps) (h p)
        ∙ ap (λ (rest : List Lit). lit_of even_q ss p true ∷ lit_of even_q ss p false ∷ rest) (pairs even_q ps)

pub columns-same : (b : OldBoard) (chip : NewChip) → IsFitChip b chip → new_columns b chip ≡ chip_columns (new_cells b chip)
columns-same b chip fit = sym (columns-alike chip.kind chip.mode (registers_in (new_cells b chip).cells) (registered_pins b chip) (cells-registered b chip fit))

-- the cells

gal-free : (k : Kind) (pin : ℕ) → is_gal k ≡ true → not (is_among (pal_registers k) pin) ≡ true
gal-free Gal16V8 pin e = refl
gal-free Gal20V8 pin e = refl
gal-free Gal22V10 pin e = refl
gal-free Gal22V10Q pin e = refl
gal-free _ pin e = cc

idle-fits : (kind : Kind) (mode : Mode) (columns : List Lit) (pin : ℕ) → is_gal kind ≡ true → FitsCell kind mode columns (idle pin)
idle-fits kind mode columns pin gal = record { form = gal-free kind pin gal; inversions = refl; enable = refl; count = omega arith; terms = tt }

-- no row of a unit is full
none-full : (b : OldBoard) (chip : NewChip) (rows : List (List Literal)) (lits : List Literal) → list_any (is_full b chip) rows ≡ false → Among lits rows → is_full b chip lits ≡ false
none-full b chip rows lits e a = at (is_full b chip lits) refl
  where
    at : (q : Bool) → is_full b chip lits ≡ q → q ≡ false
    at true h = sym (among-any (is_full b chip) lits rows a h) ∙ e
    at false h = refl

or-parts : (p q : Bool) → (p || q) ≡ false → (p ≡ false) × (q ≡ false)
or-parts true q e = cc
or-parts false q e = (refl, e)

rows-fit : (b : OldBoard) (chip : NewChip) (x : PlacedUnit) (lits : List Literal) → IsFitUnit b chip x → Among lits (unit_products b.circuit chip x) → fits_row (new_columns b chip) (new_product b chip lits) ≡ true
rows-fit b chip x lits fit a = not-full b chip lits (none-full b chip (unit_products b.circuit chip x) lits (or-parts _ _ fit.not_full).0 a)

terms-fit : (b : OldBoard) (chip : NewChip) (terms : List (List Literal)) → ((lits : List Literal) → Among lits terms → fits_row (new_columns b chip) (new_product b chip lits) ≡ true) →
    AllByRecursion (λ (term : List Lit). IsTrue (fits_row (new_columns b chip) term)) (new_terms b chip terms)
terms-fit b chip terms each = all-among (λ (term : List Lit). IsTrue (fits_row (new_columns b chip) term)) (new_terms b chip terms) (λ t a.
    let lits = among-map (new_product b chip) t terms a in
    subst (λ (ls : List Lit). IsTrue (fits_row (new_columns b chip) ls)) (sym lits.2) (each lits.0 lits.1))

terms-few : (b : OldBoard) (chip : NewChip) (terms : List (List Literal)) (n : ℕ) → length terms ≤ n → length (new_terms b chip terms) ≤ n
terms-few b chip terms n h = subst (λ (m : ℕ). m ≤ n) (sym (length-map terms (new_product b chip))) h

always-here : (b : OldBoard) (chip : NewChip) (g : Gate) (lits : List Literal) → g ≡ Product lits → g ≡ Product [] → is_always (new_enable b chip (Product lits)) ≡ true
always-here b chip g [] e h = refl
always-here b chip g (x ∷ xs) e h = let wrong : Product (x ∷ xs) ≡ Product [] = sym e ∙ h in cc

-- a combinational cell
comb-fits : (b : OldBoard) (chip : NewChip) (pin : ℕ) (x : PlacedUnit) (g : Gate) → is_gal chip.kind ≡ true → RegistersFit b chip → x.enable ≡ g → length x.terms ≤ most_terms chip.kind chip.mode pin form.Comb
    → (is_simple chip.mode ≡ true → x.enable ≡ Product []) → ((lits : List Literal) → Among lits (comb_products g x.terms) → IsReadable b chip lits)
    → ((lits : List Literal) → Among lits (comb_products g x.terms) → fits_row (new_columns b chip) (new_product b chip lits) ≡ true)
    → FitsCell chip.kind chip.mode (new_columns b chip) (new_comb b chip pin x g)
comb-fits b chip pin x Never gal registers e few always readable fits = idle-fits chip.kind chip.mode (new_columns b chip) pin gal
comb-fits b chip pin x (Product lits) gal registers e few always readable fits = record {
  form = gal-free chip.kind pin gal;
  inversions = ap (λ (q : Bool). (q || x.low) && true) gal;
  enable = enabled (is_simple chip.mode) refl;
  count = terms-few b chip x.terms (most_terms chip.kind chip.mode pin form.Comb) few;
  terms = terms-fit b chip x.terms (λ ls a. fits ls (inr a));
}
  where
    enabled : (q : Bool) → is_simple chip.mode ≡ q → cond q (is_always (new_enable b chip (Product lits))) (has_enable_row (new_columns b chip) (new_enable b chip (Product lits))) ≡ true
    enabled true h = always-here b chip x.enable lits e (always h)
    enabled false h = new-enable b chip lits registers (readable lits (inl refl)) (fits lits (inl refl))

-- the enable of a registered cell: a row on a 22V10, the enable pin on a V8
reg-enable : (q : Bool) (columns : List Lit) (p : ℕ) (e : Enable) → (q ≡ true → (is_never e || has_enable_row columns e) ≡ true) →
    cond q (is_never (cond q e (enable.LowPin p)) || has_enable_row columns (cond q e (enable.LowPin p))) (is_low_pin p (cond q e (enable.LowPin p))) ≡ true
reg-enable true columns p e h = h refl
reg-enable false columns p e h = eq-eqb p p refl

never-or-row : (b : OldBoard) (chip : NewChip) (g : Gate) → RegistersFit b chip → ((lits : List Literal) → Among lits (gate_products g) → IsReadable b chip lits)
    → ((lits : List Literal) → Among lits (gate_products g) → fits_row (new_columns b chip) (new_product b chip lits) ≡ true) → (is_never (new_enable b chip g) || has_enable_row (new_columns b chip) (new_enable b chip g)) ≡ true
never-or-row b chip Never registers readable fits = refl
never-or-row b chip (Product lits) registers readable fits =
    or_right (is_never (new_enable b chip (Product lits))) _ (new-enable b chip lits registers (readable lits (inl refl)) (fits lits (inl refl)))

enable-among : (q : Bool) (lits : List Literal) (k : ℕ) (x : PlacedUnit) → q ≡ true → Among lits (gate_products x.enable) → Among lits (products_by q (Some k) x)
enable-among true lits k x e a = among-right lits x.terms (gate_products x.enable) a
enable-among false lits k x e a = cc

-- a registered cell
reg-fits : (b : OldBoard) (chip : NewChip) (pin k : ℕ) (x : PlacedUnit) → RegistersFit b chip → length x.terms ≤ most_terms chip.kind chip.mode pin form.Reg → has_form chip.kind chip.mode pin form.Reg ≡ true
    → has_inversions chip.kind form.Reg x.low (pin_low_of (slice_get b.circuit.units x.unit)) ≡ true
    → ((lits : List Literal) → Among lits (products_by (is_22 chip.kind) (Some k) x) → IsReadable b chip lits)
    → ((lits : List Literal) → Among lits (products_by (is_22 chip.kind) (Some k) x) → fits_row (new_columns b chip) (new_product b chip lits) ≡ true)
    → FitsCell chip.kind chip.mode (new_columns b chip) (new_reg b chip pin x)
reg-fits b chip pin k x registers few has inversions readable fits = record {
  form = has;
  inversions = inversions;
  enable = reg-enable (is_22 chip.kind) (new_columns b chip) (enable_pin chip.kind) (new_enable b chip x.enable)
      (λ e. never-or-row b chip x.enable registers (λ lits a. readable lits (enable-among (is_22 chip.kind) lits k x e a)) (λ lits a. fits lits (enable-among (is_22 chip.kind) lits k x e a)));
  count = terms-few b chip x.terms (most_terms chip.kind chip.mode pin form.Reg) few;
  terms = terms-fit b chip x.terms (λ ls a. fits ls (among-left ls x.terms _ a));
}

by-fits : (b : OldBoard) (chip : NewChip) (x : PlacedUnit) (o : Option ℕ) → is_gal chip.kind ≡ true → RegistersFit b chip → IsFitBy b chip x o
    → ((lits : List Literal) → Among lits (products_by (is_22 chip.kind) o x) → IsReadable b chip lits)
    → ((lits : List Literal) → Among lits (products_by (is_22 chip.kind) o x) → fits_row (new_columns b chip) (new_product b chip lits) ≡ true)
    → FitsCell chip.kind chip.mode (new_columns b chip) (cell_by b chip x.pin x o)
by-fits b chip x None gal registers f readable fits = comb-fits b chip x.pin x x.enable gal registers refl f.0 f.1 readable fits
by-fits b chip x (Some k) gal registers f readable fits = reg-fits b chip x.pin k x registers f.0 f.1 f.2 readable fits

unit-fits : (b : OldBoard) (chip : NewChip) (x : PlacedUnit) → is_gal chip.kind ≡ true → RegistersFit b chip → IsFitUnit b chip x → FitsCell chip.kind chip.mode (new_columns b chip) (cell_of b chip x.pin (Some x))
unit-fits b chip x gal registers fit = by-fits b chip x (placed_register b.circuit x) gal registers fit.form fit.readable (λ lits a. rows-fit b chip x lits fit a)

cell-fits : (b : OldBoard) (chip : NewChip) (pin : ℕ) → IsFitChip b chip → FitsCell chip.kind chip.mode (new_columns b chip) (new_cell b chip pin)
cell-fits b chip pin fit = at (unit_on chip.units pin) refl
  where
    at : (o : Option PlacedUnit) → unit_on chip.units pin ≡ o → FitsCell chip.kind chip.mode (new_columns b chip) (cell_of b chip pin o)
    at None e = idle-fits chip.kind chip.mode (new_columns b chip) pin fit.gal
    at (Some x) e =
        let found = on-unit chip.units pin x e in
        subst (λ (q : ℕ). FitsCell chip.kind chip.mode (new_columns b chip) (cell_of b chip q (Some x))) found.1
        (unit-fits b chip x fit.gal (registers-fit b chip fit) (fit.units x found.0))

-- reset and preset

control-row : (b : OldBoard) (chip : NewChip) (g : Gate) → (is_22 chip.kind ≡ false → g ≡ Never)
    → ((lits : List Literal) → is_22 chip.kind ≡ true → Among lits (gate_products g) → fits_row (new_columns b chip) (new_product b chip lits) ≡ true)
    → fits_control chip.kind (new_columns b chip) (new_row b chip g) ≡ true
control-row b chip Never never fits = refl
control-row b chip (Product lits) never fits = at (is_22 chip.kind) refl
  where
    at : (q : Bool) → is_22 chip.kind ≡ q → (q && fits_row (new_columns b chip) (new_product b chip lits)) ≡ true
    at true e = fits lits e (inl refl)
    at false e = let wrong : Product lits ≡ Never = never e in cc

control-among : (q : Bool) (o : Option PlacedUnit) (lits : List Literal) → q ≡ true → Among lits (controls_of o) → Among lits (cond q (controls_of o) [])
control-among true o lits e a = a
control-among false o lits e a = cc

controls-fit : (b : OldBoard) (chip : NewChip) (lits : List Literal) → IsFitChip b chip → is_22 chip.kind ≡ true → Among lits (controls_of (first_registered b.circuit chip)) →
    fits_row (new_columns b chip) (new_product b chip lits) ≡ true
controls-fit b chip lits fit e a = at (first_registered b.circuit chip) refl a
  where
    at : (o : Option PlacedUnit) → first_registered b.circuit chip ≡ o → Among lits (controls_of o) → fits_row (new_columns b chip) (new_product b chip lits) ≡ true
    at None h a = absurd a
    at (Some x) h a =
        let kept = among-unfilter (is_registered_unit b.circuit) x chip.units (first-among _ x h) in
        let none = (or-parts _ _ (fit.units x kept.0).not_full).1 in
        not-full b chip lits (none-full b chip (control_products b.circuit chip) lits none
        (control-among (is_22 chip.kind) (first_registered b.circuit chip) lits e (subst (λ (o : Option PlacedUnit). Among lits (controls_of o)) (sym h) a)))

reset-among : (o : Option PlacedUnit) (lits : List Literal) → Among lits (gate_products (reset_gate o)) → Among lits (controls_of o)
reset-among None lits a = absurd a
reset-among (Some x) lits a = among-left lits (gate_products x.reset) (gate_products x.preset) a

preset-among : (o : Option PlacedUnit) (lits : List Literal) → Among lits (gate_products (preset_gate o)) → Among lits (controls_of o)
preset-among None lits a = absurd a
preset-among (Some x) lits a = among-right lits (gate_products x.reset) (gate_products x.preset) a

pins-made : (b : OldBoard) (chip : NewChip) (pins : List ℕ) → map (λ (c : Cell). c.pin) (map (new_cell b chip) pins) ≡ pins
pins-made b chip [] = refl
pins-made b chip (p ∷ ps) = let e = cell-pin b chip p in let r = pins-made b chip ps in (λ i. e i ∷ r i)

-- the cells of a new chip
pub chip-well : (b : OldBoard) (chip : NewChip) → IsFitChip b chip → IsWellFormed (new_cells b chip)
chip-well b chip fit =
    let columns = columns-same b chip fit in
    record {
      mode = fit.mode;
      pins = pins-made b chip (cell_pins chip.kind);
      cells = subst (λ (cs : List Lit). AllByRecursion (FitsCell chip.kind chip.mode cs) (map (new_cell b chip) (cell_pins chip.kind))) columns
          (all-among (FitsCell chip.kind chip.mode (new_columns b chip)) (map (new_cell b chip) (cell_pins chip.kind)) (λ c a.
          let p = among-map (new_cell b chip) c (cell_pins chip.kind) a in
          subst (λ (c : Cell). FitsCell chip.kind chip.mode (new_columns b chip) c) (sym p.2) (cell-fits b chip p.0 fit)));
      reset = subst (λ (cs : List Lit). fits_control chip.kind cs (new_row b chip (reset_gate (first_registered b.circuit chip))) ≡ true) columns
          (control-row b chip (reset_gate (first_registered b.circuit chip)) fit.no_reset (λ lits e a. controls-fit b chip lits fit e (reset-among (first_registered b.circuit chip) lits a)));
      preset = subst (λ (cs : List Lit). fits_control chip.kind cs (new_row b chip (preset_gate (first_registered b.circuit chip))) ≡ true) columns
          (control-row b chip (preset_gate (first_registered b.circuit chip)) fit.no_preset (λ lits e a. controls-fit b chip lits fit e (preset-among (first_registered b.circuit chip) lits a)));
    }
