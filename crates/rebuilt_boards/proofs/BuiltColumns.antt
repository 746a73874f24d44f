-- The columns of the chips that are built for PAL16 chips.
use Rattle.std.proofs.Common.{ℕ, ◌≡◌, Bool, true, false, not, cond, List, map, length, Option, Some, None, is_some, refl, sym, ap, ◌∙◌, subst, eqb, eqb-true, eq-eqb}
use Rattle.std.specs.Prelude.{option_and_then}
use Rattle.std.specs.List.{slice_get, filter}
use Rattle.mig_base.specs.declared.kinds.Kind.{Kind}
use Rattle.mig_base.specs.declared.kinds.Kind.TheVariants.{Pal16L8, Pal16R4, Pal16R6, Pal16R8, Gal16V8}
use Rattle.mig_base.specs.declared.kinds.Mode.{Mode}
use Rattle.mig_base.specs.declared.kinds.Mode.TheVariants.{Fixed}
use Rattle.mig_base.specs.declared.cells.Source.TheVariants.{Pin, Reg}
use Rattle.mig_base.specs.declared.cells.Lit.{Lit}
use Rattle.mig_base.specs.declared.cells.Cell.{Cell}
use Rattle.mig_base.specs.declared.cells.ChipCells.{ChipCells}
use Rattle.mig_base.specs.declared.nets.Net.{Net}
use Rattle.mig_base.specs.declared.nets.ChipLine.{ChipLine}
use Rattle.mig_base.specs.Among.{Among}
use Rattle.mig_base.specs.DeviceTables.{is_pal16, cell_pins, pal_registers}
use Rattle.mig_base.specs.Cells.{is_among, columns_of}
use Rattle.mig_base.specs.Boards.{At, units_from, circuit_on}
use Rattle.mig_base.specs.WellFormed.{is_reg, is_simple, is_registered, same_lit, has_mode, registers_in}
use Rattle.mig_base.specs.WrittenBoard.{are_distinct}
use Rattle.mig_base.proofs.Amongs.{among-get, map-among, among-map, any-among, among-any}
use Rattle.mig_base.proofs.ListLaws.{both-ways}
use Rattle.new_board.specs.NewChip.{OldBoard, NewChip, unit_on, placed_register, register_on}
use Rattle.new_board.specs.declared.types.PlacedUnit.{PlacedUnit}
use Rattle.new_board.specs.NewFiles.{registered_pins, new_columns, cell_of, new_cell}
use Rattle.new_board.specs.OneForOne.{gal_mode, same_chip, same_chips}
use Rattle.new_board.proofs.Items.{among-filter, among-unfilter}
use Rattle.new_board.proofs.Columns.{RegistersFit}
use Rattle.rebuilt_boards.proofs.RebuiltCircuit.{board_of, chip_at, chip-at}
use Rattle.new_board.proofs.NewWiring.{cell-pin}
use Rattle.new_board.proofs.WellMade.{columns-alike}
use Rattle.rebuilt_boards.proofs.PalCells.{pal16-table}
use Rattle.rebuilt_boards.proofs.PalUnits.{pal-unit, unit-from, new-same}
use Rattle.rebuilt_boards.proofs.RegisterUnits.{registered-unit, on-register, registers-fit}
use Rattle.rebuilt_boards.proofs.PalReads.{IsChip, holds-units, no-register, register-unit}
use Rattle.rebuilt_boards.proofs.PalBoards.{IsPalBoard, board-chip, board-registered}

-- the tables of a PAL16 and its GAL16V8, as far as columns go
record IsColumnTable (k : Kind) (mode : Mode) : Type 0 where
  has : has_mode Gal16V8 (gal_mode k mode) ≡ true
  simple : is_simple (gal_mode k mode) ≡ false
  registered : (pin : ℕ) → is_among (pal_registers k) pin ≡ true → is_registered (gal_mode k mode) ≡ true
  columns : (registers : List ℕ) → columns_of Gal16V8 (gal_mode k mode) registers ≡ columns_of k Fixed registers
  distinct : are_distinct same_lit (columns_of k Fixed (pal_registers k)) ≡ true
  wide : (registers : List ℕ) → length (columns_of k Fixed registers) ≡ 32

column-table : (k : Kind) (mode : Mode) → is_pal16 k ≡ true → IsColumnTable k mode
column-table Pal16L8 mode e = record { has = refl; simple = refl; registered = λ pin h. cc; columns = λ registers. refl; distinct = refl; wide = λ registers. refl }
column-table Pal16R4 mode e = record { has = refl; simple = refl; registered = λ pin h. refl; columns = λ registers. refl; distinct = refl; wide = λ registers. refl }
column-table Pal16R6 mode e = record { has = refl; simple = refl; registered = λ pin h. refl; columns = λ registers. refl; distinct = refl; wide = λ registers. refl }
column-table Pal16R8 mode e = record { has = refl; simple = refl; registered = λ pin h. refl; columns = λ registers. refl; distinct = refl; wide = λ registers. refl }
column-table _ mode e = cc

-- the columns of a PAL16
pub pal-wide : (k : Kind) (registers : List ℕ) → is_pal16 k ≡ true → length (columns_of k Fixed registers) ≡ 32
pal-wide k registers e = (column-table k Fixed e).wide registers

abbrev lit_by : Bool → Bool → ℕ → Bool → Lit
lit_by even_q registered pin even = cond registered (record { source = Reg pin; high = cond even_q even (not even) }) (record { source = Pin pin; high = even })

-- the registers of a new chip are on the registered pins of the old one
register-same : (net : Net) (chips : List ChipCells) (j pin : ℕ) (line : ChipLine) (cells : ChipCells) → IsChip net chips j line cells →
    is_some (register_on (circuit_on net (units_from 0 chips)) (same_chip (board_of net (units_from 0 chips)) j line cells) pin) ≡ is_among (pal_registers line.kind) pin
register-same net chips j pin line cells c = at (is_among (pal_registers line.kind) pin) refl
  where
    at : (q : Bool) → is_among (pal_registers line.kind) pin ≡ q → is_some (register_on (circuit_on net (units_from 0 chips)) (same_chip (board_of net (units_from 0 chips)) j line cells) pin) ≡ q
    at true e =
        let units = units_from 0 chips in
        let r = register-unit net chips j pin line cells c e in
        ap (λ (o : Option ℕ). is_some o) (on-register net units j (same_chip (board_of net units) j line cells) pin r.0 (holds-units net chips j line cells c) r.1)
        ∙ registered-unit net units r.0 r.1.unit r.1.found ∙ r.2
    at false e = ap (λ (o : Option ℕ). is_some o) (no-register net chips j pin line cells c e)

-- what is known of the columns of a new chip
pub record ColumnsFit (b : OldBoard) (chip : NewChip) : Type 0 where
  pub kind : chip.kind ≡ Gal16V8
  pub mode : has_mode Gal16V8 chip.mode ≡ true
  pub simple : is_simple chip.mode ≡ false
  pub registered : (pin : ℕ) → is_some (register_on b.circuit chip pin) ≡ true → is_registered chip.mode ≡ true
  pub registers : RegistersFit b chip
  pub distinct : are_distinct same_lit (new_columns b chip) ≡ true
  pub wide : length (new_columns b chip) ≡ 32

same-columns : (net : Net) (chips : List ChipCells) (j : ℕ) (line : ChipLine) (cells : ChipCells) → IsChip net chips j line cells →
    ColumnsFit (board_of net (units_from 0 chips)) (same_chip (board_of net (units_from 0 chips)) j line cells)
same-columns net chips j line cells c =
    let k = line.kind in
    let b = board_of net (units_from 0 chips) in
    let chip = same_chip (board_of net (units_from 0 chips)) j line cells in
    let table = column-table k cells.mode c.pal.pal in
    let gal = (pal16-table k c.pal.pal).gal in
    let registers = registers-fit net (units_from 0 chips) j chip (holds-units net chips j line cells c) in
    let columns : new_columns b chip ≡ columns_of k Fixed (pal_registers k) =
    ap (λ (g : Kind). columns_of g (gal_mode k cells.mode) (registered_pins b chip)) gal
    ∙ columns-alike Gal16V8 (gal_mode k cells.mode) (registered_pins b chip) (pal_registers k) (λ pin. registers.each pin ∙ register-same net chips j pin line cells c)
    ∙ table.columns (pal_registers k) in
    record {
      kind = gal;
      mode = table.has;
      simple = table.simple;
      registered = λ pin e. table.registered pin (sym (register-same net chips j pin line cells c) ∙ e);
      registers = registers;
      distinct = ap (are_distinct same_lit) columns ∙ table.distinct;
      wide = ap (λ (cs : List Lit). length cs) columns ∙ table.wide (pal_registers k);
    }

pub columns-fit : (net : Net) (chips : List ChipCells) (j : ℕ) (chip : NewChip) → IsPalBoard net chips → slice_get (same_chips net chips) j ≡ Some chip → ColumnsFit (board_of net (units_from 0 chips)) chip
columns-fit net chips j chip board found =
    let s = new-same net chips j chip board.pals found in
    subst (ColumnsFit (board_of net (units_from 0 chips))) (sym s.chip_is) (same-columns net chips j s.line s.cells (board-chip net chips j s.line s.cells board s.line_is s.cells_is s.pal))

-- the cells of a new chip are registered where its columns say so

cell-registered : (net : Net) (chips : List ChipCells) (j pin : ℕ) (chip : NewChip) → IsPalBoard net chips → slice_get (same_chips net chips) j ≡ Some chip →
    is_reg (new_cell (board_of net (units_from 0 chips)) chip pin).form ≡ is_some (register_on (circuit_on net (units_from 0 chips)) chip pin)
cell-registered net chips j pin chip board found = at (unit_on chip.units pin) refl
  where
    at : (o : Option PlacedUnit) → unit_on chip.units pin ≡ o → is_reg (new_cell (board_of net (units_from 0 chips)) chip pin).form ≡ is_some (register_on (circuit_on net (units_from 0 chips)) chip pin)
    at None e =
        let b = board_of net (units_from 0 chips) in
        ap (λ (o : Option PlacedUnit). is_reg (cell_of b chip pin o).form) e
        ∙ sym (ap (λ (o : Option PlacedUnit). is_some (option_and_then (placed_register b.circuit) o)) e)
    at (Some x) e =
        let b = board_of net (units_from 0 chips) in
        let r = unit-from net chips j chip pin x board.pals found e in
        let u = r.unit in
        let same : chip_at (same_chips net chips) u.chip ≡ chip =
        ap (λ (q : At). chip_at (same_chips net chips) q.0) r.place ∙ chip-at (same_chips net chips) j chip found in
        ap (λ (k : ℕ). is_reg (new_cell b chip k).form) (sym (ap (λ (q : At). q.1) r.place))
        ∙ ap (λ (c : NewChip). is_reg (new_cell b c u.cell.pin).form) (sym same)
        ∙ board-registered net chips u board (among-get (units_from 0 chips) x.unit u r.found)
        ∙ sym (registered-unit net (units_from 0 chips) x.unit u r.found)
        ∙ sym (ap (λ (o : Option PlacedUnit). is_some (option_and_then (placed_register b.circuit) o)) e)

pub cells-registered : (net : Net) (chips : List ChipCells) (j : ℕ) (chip : NewChip) → IsPalBoard net chips → slice_get (same_chips net chips) j ≡ Some chip → (pin : ℕ) →
    is_among (registers_in (map (new_cell (board_of net (units_from 0 chips)) chip) (cell_pins Gal16V8))) pin ≡ is_among (registered_pins (board_of net (units_from 0 chips)) chip) pin
cells-registered net chips j chip board found pin =
    both-ways _ _ (λ e. (columns-fit net chips j chip board found).registers.each pin ∙ there e) (λ e. back (sym ((columns-fit net chips j chip board found).registers.each pin) ∙ e))
  where
    b : OldBoard
    b = board_of net (units_from 0 chips)

    cells : List Cell
    cells = map (new_cell b chip) (cell_pins Gal16V8)

    there : is_among (registers_in cells) pin ≡ true → is_some (register_on b.circuit chip pin) ≡ true
    there e =
        let p = any-among (λ p. eqb p pin) (registers_in cells) e in
        let cell = among-map (λ (c : Cell). c.pin) p.0 (filter (λ (c : Cell). is_reg c.form) cells) p.1 in
        let kept = among-unfilter (λ (c : Cell). is_reg c.form) cell.0 cells cell.1 in
        let q = among-map (new_cell b chip) cell.0 (cell_pins Gal16V8) kept.0 in
        let same : q.0 ≡ pin = sym (cell-pin b chip q.0) ∙ sym (ap (λ (c : Cell). c.pin) q.2) ∙ sym cell.2 ∙ eqb-true p.0 pin p.2 in
        ap (λ (k : ℕ). is_some (register_on b.circuit chip k)) (sym same) ∙ sym (cell-registered net chips j q.0 chip board found) ∙ sym (ap (λ (c : Cell). is_reg c.form) q.2) ∙ kept.1

    back : is_some (register_on b.circuit chip pin) ≡ true → is_among (registers_in cells) pin ≡ true
    back e = at (unit_on chip.units pin) refl
      where
        at : (o : Option PlacedUnit) → unit_on chip.units pin ≡ o → is_among (registers_in cells) pin ≡ true
        at None is = let wrong : false ≡ true = sym (ap (λ (o : Option PlacedUnit). is_some (option_and_then (placed_register b.circuit) o)) is) ∙ e in cc
        at (Some x) is =
            let r = unit-from net chips j chip pin x board.pals found is in
            let p = pal-unit net chips r.unit board.pals (among-get (units_from 0 chips) x.unit r.unit r.found) in
            let its : Among pin (cell_pins Gal16V8) =
            subst (λ (q : ℕ). Among q (cell_pins Gal16V8)) (ap (λ (q : At). q.1) r.place) (subst (Among r.unit.cell.pin) (sym (pal16-table p.line.kind p.chip.pal).cells) p.pin) in
            among-any (λ p. eqb p pin) (new_cell b chip pin).pin (registers_in cells)
            (map-among (λ (c : Cell). c.pin) (new_cell b chip pin) (filter (λ (c : Cell). is_reg c.form) cells)
            (among-filter (λ (c : Cell). is_reg c.form) (new_cell b chip pin) cells (map-among (new_cell b chip) pin (cell_pins Gal16V8) its) (cell-registered net chips j pin chip board found ∙ e)))
            (eq-eqb (new_cell b chip pin).pin pin (cell-pin b chip pin))
