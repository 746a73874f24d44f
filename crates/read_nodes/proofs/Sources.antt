-- The nodes that a chip's rows read on its board.
use Rattle.std.proofs.Common.{ℕ, zero, suc, ◌≡◌, ◌⊎◌, ◌<◌, ◌+◌, Bool, true, false, not, ◌&&◌, ◌||◌, List, [], ◌∷◌, map, filter, length, Some, refl, sym, ap, ◌∙◌, subst, inl, inr, arith}
use Rattle.std.specs.Prelude.{slice_get}
use Rattle.std.specs.List.{list_any}
use Rattle.std.proofs.lemmas.List.{length-map}
use Rattle.std.proofs.lemmas.Option.{slice_get_within}
use Rattle.mig_base.specs.declared.cells.Cell.{Cell}
use Rattle.mig_base.specs.declared.cells.ChipCells.{ChipCells}
use Rattle.mig_base.specs.declared.cells.Source.{Source}
use Rattle.mig_base.specs.declared.cells.Source.TheVariants.{Pin, Reg}
use Rattle.mig_base.specs.declared.nets.ChipLine.{ChipLine}
use Rattle.mig_base.specs.declared.nets.Net.{Net}
use Rattle.mig_base.specs.Among.{Among}
use Rattle.mig_base.specs.Boards.{At, ChipUnit, at_of, circuit_on, in_cell, in_row, is_mute, is_registered, is_unit, makes_unit, net_of, pins_from, place_of, read_of, register_of, registers_of, units_from}
use Rattle.mig_base.specs.Cells.{is_among}
use Rattle.mig_base.specs.DeviceTables.{is_22, ordinary_pins}
use Rattle.mig_base.specs.Reads.{IsNode}
use Rattle.mig_base.specs.WellFormed.{is_never, is_reg, registers_in}
use Rattle.mig_base.specs.declared.cells.Form.{Form}
use Rattle.mig_base.specs.declared.cells.Form.TheVariants as form
use Rattle.mig_base.proofs.Amongs.{among-filter, among-left, among-map, among-right, among-split, filter-among, map-among}
use Rattle.rebuilt_boards.proofs.Ranges.{net-within}
use Rattle.new_board.proofs.Wiring.{LinesFit, place-get}
use Rattle.read_nodes.proofs.Columns.{IsReadable, pin-among}

-- a cell of the chip of this number
abbrev pub unit_of_cell : ℕ → ChipCells → Cell → ChipUnit
unit_of_cell j c cell = record { chip = j; cells = c; cell = cell }

-- a pin of the chip of this number
abbrev pub pin_of : ℕ → ℕ → At
pin_of j p = (j, p)

-- a unit stands on a chip of the board, with a cell of it
pub record IsOn (start : ℕ) (chips : List ChipCells) (u : ChipUnit) : Type 0 where
  pub place : ℕ
  pub chip : u.chip ≡ start + place
  pub cells : slice_get chips place ≡ Some u.cells
  pub cell : Among u.cell u.cells.cells
  pub unit : is_unit u.cells u.cell ≡ true

pub unit-on : (start : ℕ) (chips : List ChipCells) (u : ChipUnit) → Among u (units_from start chips) → IsOn start chips u
unit-on start [] u a = absurd a
unit-on start (c ∷ cs) u a = at (among-split u (map (unit_of_cell start c) (filter (is_unit c) c.cells)) (units_from (start + 1) cs) a) (λ b. unit-on (start + 1) cs u b)
  where
    on : (cell : Cell) → Among cell (filter (is_unit c) c.cells) → IsOn start (c ∷ cs) (unit_of_cell start c cell)
    on cell m =
        let kept = among-filter (is_unit c) cell c.cells m in
        record { place = 0; chip = omega arith; cells = refl; cell = kept.1; unit = kept.0 }

    here : Among u (map (unit_of_cell start c) (filter (is_unit c) c.cells)) → IsOn start (c ∷ cs) u
    here b = let found = among-map (unit_of_cell start c) u (filter (is_unit c) c.cells) b in subst (IsOn start (c ∷ cs)) (sym found.2) (on found.0 found.1)

    later : IsOn (start + 1) cs u → IsOn start (c ∷ cs) u
    later o = let p : u.chip ≡ start + 1 + o.place = o.chip in record { place = suc o.place; chip = omega arith; cells = o.cells; cell = o.cell; unit = o.unit }

    at : Among u (map (unit_of_cell start c) (filter (is_unit c) c.cells)) ⊎ Among u (units_from (start + 1) cs) → (Among u (units_from (start + 1) cs) → IsOn (start + 1) cs u) → IsOn start (c ∷ cs) u
    at (inl b) rest = here b
    at (inr b) rest = later (rest b)

-- a cell of a chip that is a unit is one of the board's
pub cell-unit : (start : ℕ) (chips : List ChipCells) (k : ℕ) (c : ChipCells) (cell : Cell) → slice_get chips k ≡ Some c → Among cell c.cells → is_unit c cell ≡ true →
    Among (unit_of_cell (start + k) c cell) (units_from start chips)
cell-unit start [] k c cell e a is = cc
cell-unit start (d ∷ ds) zero c cell e a is =
    let same : d ≡ c = cc in
    let zero_more : start ≡ start + 0 = omega arith in
    subst (λ (q : ChipCells). Among (unit_of_cell (start + 0) c cell) (units_from start (q ∷ ds))) (sym same)
    (subst (λ (j : ℕ). Among (unit_of_cell j c cell) (units_from start (c ∷ ds))) zero_more
    (among-left (unit_of_cell start c cell) (map (unit_of_cell start c) (filter (is_unit c) c.cells)) (units_from (start + 1) ds)
    (map-among (unit_of_cell start c) cell (filter (is_unit c) c.cells) (filter-among (is_unit c) cell c.cells is a))))
cell-unit start (d ∷ ds) (suc k) c cell e a is =
    let next : start + 1 + k ≡ start + suc k = omega arith in
    among-right (unit_of_cell (start + suc k) c cell) (map (unit_of_cell start d) (filter (is_unit d) d.cells)) (units_from (start + 1) ds)
    (subst (λ (j : ℕ). Among (unit_of_cell j c cell) (units_from (start + 1) ds)) next (cell-unit (start + 1) ds k c cell e a is))

-- the pins of a chip by its line
pub pin-of-line : (start : ℕ) (lines : List ChipLine) (k : ℕ) (line : ChipLine) (p : ℕ) → slice_get lines k ≡ Some line → Among p (ordinary_pins line.kind) →
    Among (pin_of (start + k) p) (pins_from start lines)
pin-of-line start [] k line p e a = cc
pin-of-line start (l ∷ ls) zero line p e a =
    let same : l ≡ line = cc in
    let zero_more : start ≡ start + 0 = omega arith in
    subst (λ (j : ℕ). Among (pin_of j p) (pins_from start (l ∷ ls))) zero_more
    (among-left (pin_of start p) (map (pin_of start) (ordinary_pins l.kind)) (pins_from (start + 1) ls)
    (map-among (pin_of start) p (ordinary_pins l.kind) (subst (λ (y : ChipLine). Among p (ordinary_pins y.kind)) (sym same) a)))
pin-of-line start (l ∷ ls) (suc k) line p e a =
    let next : start + 1 + k ≡ start + suc k = omega arith in
    among-right (pin_of (start + suc k) p) (map (pin_of start) (ordinary_pins l.kind)) (pins_from (start + 1) ls)
    (subst (λ (j : ℕ). Among (pin_of j p) (pins_from (start + 1) ls)) next (pin-of-line (start + 1) ls k line p e a))

-- whether a chip reads the register of a pin
abbrev pub chip_reads : ChipCells → ℕ → Bool
chip_reads c p = list_any (in_cell p) c.cells || in_row p c.reset || in_row p c.preset

-- a registered cell that its chip reads is a unit
read-unit : (c : ChipCells) (cell : Cell) → is_reg cell.form ≡ true → chip_reads c cell.pin ≡ true → is_unit c cell ≡ true
read-unit c cell reg reads = at cell.form reg
  where
    loud : is_mute c cell ≡ false
    loud = ap (λ (b : Bool). is_22 c.kind && is_never cell.enable && not b) reads ∙ none (is_22 c.kind && is_never cell.enable)
      where
        none : (b : Bool) → (b && not true) ≡ false
        none true = refl
        none false = refl

    at : (f : Form) → is_reg f ≡ true → makes_unit (is_mute c cell) f ≡ true
    at form.Idle e = cc
    at form.Comb e = cc
    at form.Reg e = ap not loud

-- a chip of a board
pub record IsChip (net : Net) (chips : List ChipCells) (j : ℕ) (c : ChipCells) : Type 0 where
  pub cells : slice_get chips j ≡ Some c
  pub line : ChipLine
  pub found : slice_get net.chips j ≡ Some line
  pub kind : c.kind ≡ line.kind

-- the register of a pin that has one
pub register-node : (net : Net) (units : List ChipUnit) (q : At) → Among q (map at_of (registers_of units)) → place_of q (map at_of (registers_of units)) < length (circuit_on net units).registers
register-node net units q a =
    let within : place_of q (map at_of (registers_of units)) < length (map at_of (registers_of units)) = slice_get_within (map at_of (registers_of units)) (place_of q (map at_of (registers_of units))) q (place-get q (map at_of (registers_of units)) a) in
    let one : length (map at_of (registers_of units)) ≡ length (registers_of units) = length-map (registers_of units) at_of in
    let other : length (map (register_of net units) (registers_of units)) ≡ length (registers_of units) = length-map (registers_of units) (register_of net units) in
    omega arith

-- what it can read is a node of the board
pub source-node : (net : Net) (chips : List ChipCells) (j : ℕ) (c : ChipCells) → LinesFit net → IsChip net chips j c → (s : Source) → IsReadable c.kind (registers_in c.cells) s →
    ((p : ℕ) → s ≡ Reg p → chip_reads c p ≡ true) → IsNode (circuit_on net (units_from 0 chips)) (read_of net (units_from 0 chips) j s)
source-node net chips j c fit chip (Pin p) ordinary reads =
    let start : 0 + j ≡ j = omega arith in
    let pin : Among p (ordinary_pins chip.line.kind) = pin-among (ordinary_pins chip.line.kind) p (sym (ap (λ k. is_among (ordinary_pins k) p) chip.kind) ∙ ordinary) in
    let at : Among (pin_of j p) (pins_from 0 net.chips) = subst (λ (i : ℕ). Among (pin_of i p) (pins_from 0 net.chips)) start (pin-of-line 0 net.chips j chip.line p chip.found pin) in
    let wire = net-within net (units_from 0 chips) (j, p) fit at in
    slice_get_within (circuit_on net (units_from 0 chips)).nets (net_of net (j, p)) wire.0 wire.1
source-node net chips j c fit chip (Reg p) listed reads =
    let units = units_from 0 chips in
    let start : 0 + j ≡ j = omega arith in
    let cell = among-map (λ (x : Cell). x.pin) p (filter (λ (x : Cell). is_reg x.form) c.cells) (pin-among (registers_in c.cells) p listed) in
    let kept = among-filter (λ (x : Cell). is_reg x.form) cell.0 c.cells cell.1 in
    let loud : is_unit c cell.0 ≡ true = read-unit c cell.0 kept.0 (ap (chip_reads c) (sym cell.2) ∙ reads p refl) in
    let unit : Among (unit_of_cell j c cell.0) units =
    subst (λ (i : ℕ). Among (unit_of_cell i c cell.0) units) start (cell-unit 0 chips j c cell.0 chip.cells kept.1 loud) in
    let listed_at : Among (pin_of j cell.0.pin) (map at_of (registers_of units)) = map-among at_of (unit_of_cell j c cell.0) (registers_of units) (filter-among is_registered (unit_of_cell j c cell.0) units kept.0 unit) in
    let at : Among (pin_of j p) (map at_of (registers_of units)) = subst (λ (i : ℕ). Among (pin_of j i) (map at_of (registers_of units))) (sym cell.2) listed_at in
    register-node net units (j, p) at
