-- The cells of the chips that are built for PAL16 chips are well formed.
use Rattle.std.proofs.Common.{ℕ, ◌≡◌, ◌<◌, ◌≤◌, Bool, true, false, cond, ◌||◌, List, [], ◌∷◌, map, length, Option, Some, None, is_some, refl, sym, ap, ◌∙◌, subst, inl, inr, ◌⊎◌, eqb, ltb, ltb-true, arith, IsTrue}
use Rattle.std.specs.Prelude.{option_and_then}
use Rattle.std.specs.List.{slice_get, AllByRecursion}
use Rattle.std.proofs.lemmas.Bool.{and_parts}
use Rattle.std.proofs.lemmas.List.{length-map}
use Rattle.mig_base.specs.declared.kinds.Kind.TheVariants.{Gal16V8}
use Rattle.mig_base.specs.declared.kinds.Mode.{Mode}
use Rattle.mig_base.specs.declared.kinds.Mode.TheVariants.{Fixed}
use Rattle.mig_base.specs.declared.cells.Lit.{Lit}
use Rattle.mig_base.specs.declared.cells.Row.TheVariants as row
use Rattle.mig_base.specs.declared.cells.Form.{Form}
use Rattle.mig_base.specs.declared.cells.Form.TheVariants as form
use Rattle.mig_base.specs.declared.cells.Cell.{Cell}
use Rattle.mig_base.specs.declared.cells.ChipCells.{ChipCells}
use Rattle.mig_base.specs.declared.nets.Net.{Net}
use Rattle.mig_base.specs.declared.circuit.Literal.{Literal}
use Rattle.mig_base.specs.declared.circuit.Gate.{Gate}
use Rattle.mig_base.specs.declared.circuit.Gate.TheVariants.{Never, Product}
use Rattle.mig_base.specs.Among.{Among}
use Rattle.mig_base.specs.DeviceTables.{is_pal, pins_of, cell_pins, rows_22}
use Rattle.mig_base.specs.Cells.{enable_of, idle, pal_cell, pal_cells}
use Rattle.mig_base.specs.Structure.{variable_gate, variable_product}
use Rattle.mig_base.specs.Boards.{At, ChipUnit, literals_of, units_from, circuit_on}
use Rattle.mig_base.specs.WellFormed.{rises_in, is_always, has_enable, most_terms, has_enable_row, fits_row, fits_control, registers_in, chip_columns, is_registered, FitsCell, IsWellFormed}
use Rattle.mig_base.proofs.Amongs.{among-get, map-among, among-map, among-all, all-among}
use Rattle.made_cells.proofs.MadeCells.{pal-well}
use Rattle.made_cells.proofs.CellsFit.{map-pins}
use Rattle.new_board.specs.NewChip.{OldBoard, NewChip, unit_on, first_registered, placed_register, register_on}
use Rattle.new_board.specs.declared.types.PlacedUnit.{PlacedUnit}
use Rattle.new_board.specs.NewFiles.{registered_pins, new_columns, new_product, new_terms, new_enable, new_row, cell_of, new_cell, new_cells, reset_gate, preset_gate, fitted}
use Rattle.new_board.specs.OneForOne.{terms_over, same_chips}
use Rattle.rebuilt_boards.specs.RebuiltBoards.{built_chips}
use Rattle.new_board.specs.declared.types.FittedChip.{FittedChip}
use Rattle.new_board.proofs.Items.{get-among}
use Rattle.rebuilt_boards.proofs.RebuiltCircuit.{board_of, chip_at, chip-at}
use Rattle.new_board.proofs.NewWiring.{cell-pin}
use Rattle.new_board.proofs.Columns.{IsReadable}
use Rattle.rebuilt_boards.proofs.Combinational.{old_terms, comb_made}
use Rattle.rebuilt_boards.proofs.PalCells.{pal16-table}
use Rattle.rebuilt_boards.proofs.PalUnits.{IsPalUnit, pal-unit, unit-from}
use Rattle.rebuilt_boards.proofs.RegisterUnits.{IsCombUnit, IsRegUnit, unit-cases, reg-registered, registered-unit, comb-of}
use Rattle.rebuilt_boards.proofs.Registered.{reg_made, pal-reset, pal-preset}
use Rattle.rebuilt_boards.proofs.PalBoards.{IsPalBoard, comb-new_cell, reg-new_cell}
use Rattle.rebuilt_boards.proofs.PalFollows.{board-comb}
use Rattle.rebuilt_boards.proofs.PalPins.{first-old}
use Rattle.new_board.proofs.BuiltRows.{new-fits, new-enable}
use Rattle.new_board.proofs.WellMade.{columns-alike}
use Rattle.rebuilt_boards.proofs.BuiltColumns.{pal-wide, ColumnsFit, columns-fit, cells-registered}

-- the cells of the old chip

pal-fits : (net : Net) (chips : List ChipCells) (u : ChipUnit) (p : IsPalUnit net chips u) →
    FitsCell p.line.kind Fixed (chip_columns (pal_cells p.line.kind p.chip.bits)) u.cell
pal-fits net chips u p =
    let k = p.line.kind in
    let bits = p.chip.bits in
    let pal = and_parts (is_pal k) (eqb (pins_of k) 20) p.chip.pal in
    among-all (FitsCell k Fixed (chip_columns (pal_cells k bits))) u.cell (map (pal_cell k bits) (cell_pins k)) (pal-well k pal.0 bits).cells
    (subst (λ (c : Cell). Among c (map (pal_cell k bits) (cell_pins k))) (sym p.cell_is) (map-among (pal_cell k bits) u.cell.pin (cell_pins k) p.pin))

row-short : (columns lits : List Lit) → length columns ≡ 32 → fits_row columns lits ≡ true → length lits < 32
row-short columns lits wide h =
    let short : length lits < length columns = ltb-true (length lits) (length columns) (and_parts (rises_in columns lits) (ltb (length lits) (length columns)) h).1 in
    omega arith

-- no term of a cell of a PAL16 is the product of all columns
pub record HasShortTerms (cell : Cell) : Type 0 where
  pub each : (t : List Lit) → Among t cell.terms → length t < 32

pal-columns_wide : (net : Net) (chips : List ChipCells) (u : ChipUnit) (p : IsPalUnit net chips u) → length (chip_columns (pal_cells p.line.kind p.chip.bits)) ≡ 32
pal-columns_wide net chips u p = pal-wide p.line.kind (registers_in (pal_cells p.line.kind p.chip.bits).cells) p.chip.pal

short-terms : (net : Net) (chips : List ChipCells) (u : ChipUnit) → IsPalUnit net chips u → HasShortTerms u.cell
short-terms net chips u p = record {
  each = λ t a.
      let columns = chip_columns (pal_cells p.line.kind p.chip.bits) in
      row-short columns t (pal-columns_wide net chips u p) (among-all (λ (term : List Lit). IsTrue (fits_row columns term)) t u.cell.terms (pal-fits net chips u p).terms a);
}

few-terms : (net : Net) (chips : List ChipCells) (u : ChipUnit) (p : IsPalUnit net chips u) → length u.cell.terms ≤ most_terms p.line.kind Fixed u.cell.pin u.cell.form
few-terms net chips u p = (pal-fits net chips u p).count

comb-few : (net : Net) (chips : List ChipCells) (u : ChipUnit) → IsCombUnit net chips u → length u.cell.terms ≤ 7
comb-few net chips u c =
    let k = c.pal.line.kind in
    subst (λ (q : Bool). length u.cell.terms ≤ cond q (rows_22 u.cell.pin).1 7) (pal16-table k c.pal.chip.pal).not_22
    (subst (λ (f : Form). length u.cell.terms ≤ most_terms k Fixed u.cell.pin f) c.cell.form_is (few-terms net chips u c.pal))

reg-few : (net : Net) (chips : List ChipCells) (u : ChipUnit) → IsRegUnit net chips u → length u.cell.terms ≤ 8
reg-few net chips u r =
    let k = r.pal.line.kind in
    subst (λ (q : Bool). length u.cell.terms ≤ cond q (rows_22 u.cell.pin).1 8) (pal16-table k r.pal.chip.pal).not_22
    (subst (λ (f : Form). length u.cell.terms ≤ most_terms k Fixed u.cell.pin f) r.cell.form_is (few-terms net chips u r.pal))

-- the enable of a combinational cell is no product of all columns
enable-short : (columns lits : List Lit) → length columns ≡ 32 → has_enable_row columns (enable_of (row.Product lits)) ≡ true → length lits < 32
enable-short columns [] wide h = omega arith
enable-short columns (l ∷ ls) wide h = row-short columns (l ∷ ls) wide h

comb-short : (net : Net) (chips : List ChipCells) (u : ChipUnit) (c : IsCombUnit net chips u) → length c.cell.lits < 32
comb-short net chips u c =
    let k = c.pal.line.kind in
    let columns = chip_columns (pal_cells k c.pal.chip.bits) in
    enable-short columns c.cell.lits (pal-columns_wide net chips u c.pal)
    (ap (has_enable k Fixed columns form.Comb) (sym c.cell.enable) ∙ ap (λ (f : Form). has_enable k Fixed columns f u.cell.enable) (sym c.cell.form_is) ∙ (pal-fits net chips u c.pal).enable)

-- a new chip

abbrev gal_chip : List ℕ → Mode → List PlacedUnit → NewChip
gal_chip name mode units = record { name = name; kind = Gal16V8; mode = mode; units = units }

length-images : {S T : Type 0} (f : S → T) (xs : List S) → length (map f xs) ≡ length xs
length-images f xs = length-map xs f

short-row : (b : OldBoard) (chip : NewChip) (lits : List Literal) → ColumnsFit b chip → length lits < 32 →
    fits_row (new_columns b chip) (new_product b chip (variable_product b.circuit lits)) ≡ true
short-row b chip lits columns h =
    let wide = columns.wide in
    new-fits b chip lits columns.distinct (omega arith)

-- the terms of a cell
terms-count : (net : Net) (chips : List ChipCells) (chip : NewChip) (u : ChipUnit) →
    length (new_terms (board_of net (units_from 0 chips)) chip (terms_over (circuit_on net (units_from 0 chips)) (old_terms (board_of net (units_from 0 chips)) u))) ≡ length u.cell.terms
terms-count net chips chip u =
    let b = board_of net (units_from 0 chips) in
    length-images (new_product b chip) (map (variable_product b.circuit) (old_terms b u)) ∙ length-images (variable_product b.circuit) (old_terms b u)
    ∙ length-images (literals_of net (units_from 0 chips) u.chip) u.cell.terms

terms-fit : (net : Net) (chips : List ChipCells) (chip : NewChip) (u : ChipUnit) → ColumnsFit (board_of net (units_from 0 chips)) chip → HasShortTerms u.cell →
    AllByRecursion (λ (term : List Lit). IsTrue (fits_row (new_columns (board_of net (units_from 0 chips)) chip) term))
    (new_terms (board_of net (units_from 0 chips)) chip (terms_over (circuit_on net (units_from 0 chips)) (old_terms (board_of net (units_from 0 chips)) u)))
terms-fit net chips chip u columns short =
    let b = board_of net (units_from 0 chips) in
    all-among (λ (term : List Lit). IsTrue (fits_row (new_columns b chip) term)) (new_terms b chip (terms_over b.circuit (old_terms b u))) (λ t a.
    let over = among-map (new_product b chip) t (map (variable_product b.circuit) (old_terms b u)) a in
    let old = among-map (variable_product b.circuit) over.0 (old_terms b u) over.1 in
    let lits = among-map (literals_of net (units_from 0 chips) u.chip) old.0 u.cell.terms old.1 in
    let long : length old.0 ≡ length lits.0 = ap (λ (ls : List Literal). length ls) lits.2 ∙ length-map lits.0 _ in
    let few = short.each lits.0 lits.1 in
    subst (λ (ls : List Lit). IsTrue (fits_row (new_columns b chip) ls)) (sym (over.2 ∙ ap (new_product b chip) old.2)) (short-row b chip old.0 columns (omega arith)))

idle-fits : (mode : Mode) (columns : List Lit) (pin : ℕ) → FitsCell Gal16V8 mode columns (idle pin)
idle-fits mode columns pin = record { form = refl; inversions = refl; enable = refl; count = omega arith; terms = tt }

-- a combinational cell
comb-fits : (net : Net) (chips : List ChipCells) (name : List ℕ) (mode : Mode) (units : List PlacedUnit) (u : ChipUnit) → ColumnsFit (board_of net (units_from 0 chips)) (gal_chip name mode units) →
    (c : IsCombUnit net chips u) → IsReadable (board_of net (units_from 0 chips)) (gal_chip name mode units) (variable_product (circuit_on net (units_from 0 chips)) (comb-of net chips u c).lits) →
    FitsCell Gal16V8 mode (new_columns (board_of net (units_from 0 chips)) (gal_chip name mode units)) (comb_made (board_of net (units_from 0 chips)) (gal_chip name mode units) u (comb-of net chips u c).lits)
comb-fits net chips name mode units u columns c readable = record {
  form = refl;
  inversions = refl;
  enable =
      let b = board_of net (units_from 0 chips) in
      let chip = gal_chip name mode units in
      let lits = (comb-of net chips u c).lits in
      let long : length lits ≡ length c.cell.lits = length-map c.cell.lits _ in
      let short = comb-short net chips u c in
      ap (λ (q : Bool). cond q (is_always (new_enable b chip (Product (variable_product b.circuit lits)))) (has_enable_row (new_columns b chip) (new_enable b chip (Product (variable_product b.circuit lits))))) columns.simple
      ∙ new-enable b chip (variable_product b.circuit lits) columns.registers readable (short-row b chip lits columns (omega arith));
  count =
      let count = terms-count net chips (gal_chip name mode units) u in
      let few = comb-few net chips u c in
      subst (λ (q : Bool). length (new_terms (board_of net (units_from 0 chips)) (gal_chip name mode units) (terms_over (circuit_on net (units_from 0 chips)) (old_terms (board_of net (units_from 0 chips)) u))) ≤ cond q 8 7) (sym columns.simple) (omega arith);
  terms = terms-fit net chips (gal_chip name mode units) u columns (short-terms net chips u c.pal);
}

-- a registered cell
reg-fits : (net : Net) (chips : List ChipCells) (name : List ℕ) (mode : Mode) (units : List PlacedUnit) (u : ChipUnit) → ColumnsFit (board_of net (units_from 0 chips)) (gal_chip name mode units) →
    is_registered mode ≡ true → IsRegUnit net chips u →
    FitsCell Gal16V8 mode (new_columns (board_of net (units_from 0 chips)) (gal_chip name mode units)) (reg_made (board_of net (units_from 0 chips)) (gal_chip name mode units) u)
reg-fits net chips name mode units u columns registered r = record {
  form = ap (λ (q : Bool). q || false) registered;
  inversions = r.cell.pin_low;
  enable = refl;
  count =
      let count = terms-count net chips (gal_chip name mode units) u in
      let few = reg-few net chips u r in
      omega arith;
  terms = terms-fit net chips (gal_chip name mode units) u columns (short-terms net chips u r.pal);
}

-- the cell of a pin: that of its unit, or Idle
pin-fits : (net : Net) (chips : List ChipCells) (j : ℕ) (name : List ℕ) (mode : Mode) (units : List PlacedUnit) (pin : ℕ) → IsPalBoard net chips →
    ColumnsFit (board_of net (units_from 0 chips)) (gal_chip name mode units) → slice_get (same_chips net chips) j ≡ Some (gal_chip name mode units) →
    FitsCell Gal16V8 mode (new_columns (board_of net (units_from 0 chips)) (gal_chip name mode units)) (new_cell (board_of net (units_from 0 chips)) (gal_chip name mode units) pin)
pin-fits net chips j name mode units pin board columns found = at (unit_on units pin) refl
  where
    b : OldBoard
    b = board_of net (units_from 0 chips)

    chip : NewChip
    chip = gal_chip name mode units

    unit : (x : PlacedUnit) (u : ChipUnit) → slice_get (units_from 0 chips) x.unit ≡ Some u → chip_at (same_chips net chips) u.chip ≡ chip → unit_on units u.cell.pin ≡ Some x →
        IsCombUnit net chips u ⊎ IsRegUnit net chips u → FitsCell Gal16V8 mode (new_columns b chip) (new_cell b chip u.cell.pin)
    unit x u e same on (inl c) =
        let a = among-get (units_from 0 chips) x.unit u e in
        let made : new_cell b chip u.cell.pin ≡ comb_made b chip u (comb-of net chips u c).lits =
        subst (λ (y : NewChip). new_cell b y u.cell.pin ≡ comb_made b y u (comb-of net chips u c).lits) same (comb-new_cell net chips u board a c) in
        subst (FitsCell Gal16V8 mode (new_columns b chip)) (sym made)
        (comb-fits net chips name mode units u columns c
        (subst (λ (y : NewChip). IsReadable b y (variable_product b.circuit (comb-of net chips u c).lits)) same (board-comb net chips x.unit u board e c).enable_fits.readable))
    unit x u e same on (inr r) =
        let a = among-get (units_from 0 chips) x.unit u e in
        let made : new_cell b chip u.cell.pin ≡ reg_made b chip u = subst (λ (y : NewChip). new_cell b y u.cell.pin ≡ reg_made b y u) same (reg-new_cell net chips u board a r) in
        let here : is_some (register_on b.circuit chip u.cell.pin) ≡ true =
        ap (λ (o : Option PlacedUnit). is_some (option_and_then (placed_register b.circuit) o)) on ∙ registered-unit net (units_from 0 chips) x.unit u e ∙ reg-registered net chips u r in
        subst (FitsCell Gal16V8 mode (new_columns b chip)) (sym made) (reg-fits net chips name mode units u columns (columns.registered u.cell.pin here) r)

    at : (o : Option PlacedUnit) → unit_on units pin ≡ o → FitsCell Gal16V8 mode (new_columns b chip) (new_cell b chip pin)
    at None e =
        subst (FitsCell Gal16V8 mode (new_columns b chip)) (sym (ap (cell_of b chip pin) e)) (idle-fits mode (new_columns b chip) pin)
    at (Some x) e =
        let r = unit-from net chips j chip pin x board.pals found e in
        let u = r.unit in
        let same : chip_at (same_chips net chips) u.chip ≡ chip =
        ap (λ (q : At). chip_at (same_chips net chips) q.0) r.place ∙ chip-at (same_chips net chips) j chip found in
        let on : unit_on units u.cell.pin ≡ Some x = ap (λ (q : At). unit_on units q.1) r.place ∙ e in
        subst (λ (k : ℕ). FitsCell Gal16V8 mode (new_columns b chip) (new_cell b chip k)) (ap (λ (q : At). q.1) r.place)
        (unit x u r.found same on (unit-cases net chips u board.pals (among-get (units_from 0 chips) x.unit u r.found)))

-- PAL16 chips neither reset nor preset their registers
no-reset : (net : Net) (chips : List ChipCells) (j : ℕ) (chip : NewChip) → IsPalBoard net chips → slice_get (same_chips net chips) j ≡ Some chip → reset_gate (first_registered (circuit_on net (units_from 0 chips)) chip) ≡ Never
no-reset net chips j chip board found = at (first_registered (circuit_on net (units_from 0 chips)) chip) refl
  where
    at : (o : Option PlacedUnit) → first_registered (circuit_on net (units_from 0 chips)) chip ≡ o → reset_gate o ≡ Never
    at None e = refl
    at (Some x) e =
        let r = first-old net chips j chip x board found e in
        ap (λ (y : PlacedUnit). y.reset) r.rows ∙ ap (variable_gate (circuit_on net (units_from 0 chips))) (pal-reset net chips (units_from 0 chips) r.unit (pal-unit net chips r.unit board.pals r.among))

no-preset : (net : Net) (chips : List ChipCells) (j : ℕ) (chip : NewChip) → IsPalBoard net chips → slice_get (same_chips net chips) j ≡ Some chip → preset_gate (first_registered (circuit_on net (units_from 0 chips)) chip) ≡ Never
no-preset net chips j chip board found = at (first_registered (circuit_on net (units_from 0 chips)) chip) refl
  where
    at : (o : Option PlacedUnit) → first_registered (circuit_on net (units_from 0 chips)) chip ≡ o → preset_gate o ≡ Never
    at None e = refl
    at (Some x) e =
        let r = first-old net chips j chip x board found e in
        ap (λ (y : PlacedUnit). y.preset) r.rows ∙ ap (variable_gate (circuit_on net (units_from 0 chips))) (pal-preset net chips (units_from 0 chips) r.unit (pal-unit net chips r.unit board.pals r.among))

-- the cells of a new chip are well formed
chip-well : (net : Net) (chips : List ChipCells) (j : ℕ) (name : List ℕ) (mode : Mode) (units : List PlacedUnit) → IsPalBoard net chips →
    slice_get (same_chips net chips) j ≡ Some (gal_chip name mode units) → IsWellFormed (new_cells (board_of net (units_from 0 chips)) (gal_chip name mode units))
chip-well net chips j name mode units board found = record {
  mode = columns.mode;
  pins = map-pins (new_cell b chip) (cell_pins Gal16V8) (cell-pin b chip);
  cells = subst (λ (cs : List Lit). AllByRecursion (FitsCell Gal16V8 mode cs) cells.cells) (sym alike) (all-among (FitsCell Gal16V8 mode (new_columns b chip)) cells.cells (λ cell a.
      let pin = among-map (new_cell b chip) cell (cell_pins Gal16V8) a in
      subst (FitsCell Gal16V8 mode (new_columns b chip)) (sym pin.2) (pin-fits net chips j name mode units pin.0 board columns found)));
  reset = ap (λ (g : Gate). fits_control Gal16V8 (chip_columns cells) (new_row b chip g)) (no-reset net chips j chip board found);
  preset = ap (λ (g : Gate). fits_control Gal16V8 (chip_columns cells) (new_row b chip g)) (no-preset net chips j chip board found);
}
  where
    b : OldBoard
    b = board_of net (units_from 0 chips)

    chip : NewChip
    chip = gal_chip name mode units

    cells : ChipCells
    cells = new_cells b chip

    columns : ColumnsFit b chip
    columns = columns-fit net chips j chip board found

    alike : chip_columns cells ≡ new_columns b chip
    alike = columns-alike Gal16V8 mode (registers_in cells.cells) (registered_pins b chip) (cells-registered net chips j chip board found)

-- a new chip is such a chip
is-gal : (net : Net) (chips : List ChipCells) (j : ℕ) (chip : NewChip) → IsPalBoard net chips → slice_get (same_chips net chips) j ≡ Some chip → chip ≡ gal_chip chip.name chip.mode chip.units
is-gal net chips j chip board found =
    let kind = (columns-fit net chips j chip board found).kind in
    λ i. record { name = chip.name; kind = kind i; mode = chip.mode; units = chip.units }

-- the cells of all new chips are well formed
pub board-well : (net : Net) (chips : List ChipCells) → IsPalBoard net chips → AllByRecursion (λ (f : FittedChip). IsWellFormed f.cells) (built_chips net chips)
board-well net chips board = all-among (λ (f : FittedChip). IsWellFormed f.cells) (built_chips net chips) (λ f a.
    let b = board_of net (units_from 0 chips) in
    let chip = among-map (fitted b) f (same_chips net chips) a in
    let place = get-among chip.0 (same_chips net chips) chip.1 in
    let is = is-gal net chips place.0 chip.0 board place.1 in
    subst (λ (g : FittedChip). IsWellFormed g.cells) (sym chip.2)
    (subst (λ (c : NewChip). IsWellFormed (new_cells b c)) (sym is)
    (chip-well net chips place.0 chip.0.name chip.0.mode chip.0.units board (place.1 ∙ ap (λ (c : NewChip). Some c) is))))

-- each is a GAL16V8
pub board-kinds : (net : Net) (chips : List ChipCells) → IsPalBoard net chips → AllByRecursion (λ (f : FittedChip). f.cells.kind ≡ Gal16V8) (built_chips net chips)
board-kinds net chips board = all-among (λ (f : FittedChip). f.cells.kind ≡ Gal16V8) (built_chips net chips) (λ f a.
    let b = board_of net (units_from 0 chips) in
    let chip = among-map (fitted b) f (same_chips net chips) a in
    let place = get-among chip.0 (same_chips net chips) chip.1 in
    ap (λ (g : FittedChip). g.cells.kind) chip.2 ∙ (columns-fit net chips place.0 chip.0 board place.1).kind)
