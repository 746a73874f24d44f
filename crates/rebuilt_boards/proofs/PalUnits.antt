-- The units of a board of PAL16 chips, and those of the chips that are built for it one for one.
use Rattle.std.proofs.Common.{ℕ, zero, suc, ◌≡◌, ◌+◌, ◌≤◌, Bool, true, false, not, ◌&&◌, ◌||◌, List, [], ◌∷◌, ◌++◌, map, Option, Some, None, refl, sym, ap, ◌∙◌, subst, eqb, eqb-true, arith}
use Rattle.std.specs.List.{filter, list_any, list_all, slice_get}
use Rattle.std.specs.List.{AllByRecursion}
use Rattle.std.proofs.lemmas.Option.{same_Some}
use Rattle.std.proofs.lemmas.List.{map-append}
use Rattle.mig_base.specs.Structure.{has_no_driver}
use Rattle.mig_base.specs.declared.kinds.Kind.{Kind}
use Rattle.mig_base.specs.declared.kinds.Kind.TheVariants.{Gal16V8}
use Rattle.mig_base.specs.declared.cells.Cell.{Cell}
use Rattle.mig_base.specs.declared.cells.ChipCells.{ChipCells}
use Rattle.mig_base.specs.declared.nets.Net.{Net}
use Rattle.mig_base.specs.declared.nets.ChipLine.{ChipLine}
use Rattle.mig_base.specs.Among.{Among}
use Rattle.mig_base.specs.DeviceTables.{is_pal16, cell_pins, ordinary_pins, is_22}
use Rattle.mig_base.specs.Cells.{is_among, pal_cell, pal_cells}
use Rattle.mig_base.specs.WellFormed.{is_never}
use Rattle.mig_base.specs.Boards.{At, ChipUnit, can_drive, driver_of, makes_unit, is_unit, in_cell, in_row, units_from, circuit_on}
use Rattle.mig_base.proofs.Amongs.{among-get, map-among, among-map, among-left, among-right, any-among}
use Rattle.new_board.specs.declared.types.PlacedUnit.{PlacedUnit}
use Rattle.new_board.specs.NewChip.{OldBoard, NewChip, private_from, unit_on}
use Rattle.new_board.specs.InputPins.{pin_net}
use Rattle.new_board.specs.NewFiles.{cell_of, new_cell, new_cells, fitted}
use Rattle.new_board.specs.OneForOne.{old_rows, same_chip, same_chips_from, same_chips}
use Rattle.new_board.proofs.Items.{map-twice, among-filter, all-pass}
use Rattle.new_board.proofs.Wiring.{LinesFit, among-pins}
use Rattle.rebuilt_boards.proofs.RebuiltCircuit.{board_of, chip_at, chip-at, rebuilt_unit, rebuilt_units, UnitsFit}
use Rattle.new_board.proofs.NewWiring.{rebuilt_net}
use Rattle.rebuilt_boards.proofs.Placing.{AreApart, IsUnitAt, placed-on, placed-from, unit-of, PinsApart, units-apart, made-apart, same-chip, units-made}
use Rattle.rebuilt_boards.proofs.PalCells.{pal-pin, pal16-table}

-- a chip that is a PAL16 with these cells
pub record IsPalChip (line : ChipLine) (cells : ChipCells) : Type 0 where
  pub bits : List Bool
  pub pal : is_pal16 line.kind ≡ true
  pub cells_are : cells ≡ pal_cells line.kind bits

abbrev pub ArePals : List ChipLine → List ChipCells → Type 0
ArePals [] [] = Unit {0}
ArePals [] (c ∷ cs) = ⊥
ArePals (l ∷ ls) [] = ⊥
ArePals (l ∷ ls) (c ∷ cs) = IsPalChip l c × ArePals ls cs

-- a chip by its number
pub record PalAt (lines : List ChipLine) (chips : List ChipCells) (i : ℕ) : Type 0 where
  pub line : ChipLine
  pub cells : ChipCells
  pub line_is : slice_get lines i ≡ Some line
  pub cells_is : slice_get chips i ≡ Some cells
  pub chip : IsPalChip line cells

pub pal-cells_at : (lines : List ChipLine) (chips : List ChipCells) (i : ℕ) (c : ChipCells) → ArePals lines chips → slice_get chips i ≡ Some c → PalAt lines chips i
pal-cells_at [] [] i c h e = cc
pal-cells_at [] (d ∷ ds) i c h e = absurd h
pal-cells_at (l ∷ ls) [] i c h e = absurd h
pal-cells_at (l ∷ ls) (d ∷ ds) zero c h e = record { line = l; cells = d; line_is = refl; cells_is = refl; chip = h.0 }
pal-cells_at (l ∷ ls) (d ∷ ds) (suc i) c h e =
    let r = pal-cells_at ls ds i c h.1 e in
    record { line = r.line; cells = r.cells; line_is = r.line_is; cells_is = r.cells_is; chip = r.chip }

-- a unit of such a board
pub record IsPalUnit (net : Net) (chips : List ChipCells) (u : ChipUnit) : Type 0 where
  pub line : ChipLine
  pub line_is : slice_get net.chips u.chip ≡ Some line
  pub cells_is : slice_get chips u.chip ≡ Some u.cells
  pub chip : IsPalChip line u.cells
  pub pin : Among u.cell.pin (cell_pins line.kind)
  pub cell_is : u.cell ≡ pal_cell line.kind chip.bits u.cell.pin
  pub passes : makes_unit false u.cell.form ≡ true

-- only a 22V10 has mute cells
pub unit-passes : (c : ChipCells) (cell : Cell) → is_22 c.kind ≡ false → is_unit c cell ≡ makes_unit false cell.form
unit-passes c cell e = ap (λ (q : Bool). makes_unit (q && is_never cell.enable
    && not (list_any (in_cell cell.pin) c.cells || in_row cell.pin c.reset || in_row cell.pin c.preset)) cell.form) e

pal-not_22 : (line : ChipLine) (cells : ChipCells) → IsPalChip line cells → is_22 cells.kind ≡ false
pal-not_22 line cells p = ap (λ (c : ChipCells). is_22 c.kind) p.cells_are ∙ (pal16-table line.kind p.pal).not_22

pub pal-unit : (net : Net) (chips : List ChipCells) (u : ChipUnit) → ArePals net.chips chips → Among u (units_from 0 chips) → IsPalUnit net chips u
pal-unit net chips u pals a =
    let o = unit-of 0 chips u a in
    let number : o.number ≡ u.chip = let e : u.chip ≡ 0 + o.number = o.chip_is in omega arith in
    let found : slice_get chips u.chip ≡ Some u.cells = ap (slice_get chips) (sym number) ∙ o.cells in
    let p = pal-cells_at net.chips chips u.chip u.cells pals found in
    let same : p.cells ≡ u.cells = same_Some p.cells u.cells (sym p.cells_is ∙ found) in
    let chip : IsPalChip p.line u.cells = subst (IsPalChip p.line) same p.chip in
    let cell = among-map (pal_cell p.line.kind chip.bits) u.cell (cell_pins p.line.kind) (subst (λ (c : ChipCells). Among u.cell c.cells) chip.cells_are o.cell) in
    let pin : u.cell.pin ≡ cell.0 = ap (λ (c : Cell). c.pin) cell.2 ∙ pal-pin p.line.kind chip.bits cell.0 in
    record {
      line = p.line;
      line_is = p.line_is;
      cells_is = found;
      chip = chip;
      pin = subst (λ (q : ℕ). Among q (cell_pins p.line.kind)) (sym pin) cell.1;
      cell_is = cell.2 ∙ ap (pal_cell p.line.kind chip.bits) (sym pin);
      passes = sym (unit-passes u.cells u.cell (pal-not_22 p.line u.cells chip)) ∙ o.passes;
    }

-- a cell that passes is a unit
pub unit-among : (start i j : ℕ) (chips : List ChipCells) (c : ChipCells) (cell : Cell) → slice_get chips i ≡ Some c → j ≡ start + i → Among cell c.cells → is_unit c cell ≡ true →
    Among {T = ChipUnit} (record { chip = j; cells = c; cell = cell }) (units_from start chips)
unit-among start i j [] c cell e at a h = cc
unit-among start zero j (d ∷ ds) c cell e at a h =
    let same : d ≡ c = same_Some d c e in
    let number : start ≡ j = omega arith in
    subst (λ (q : ChipCells). Among {T = ChipUnit} (record { chip = j; cells = c; cell = cell }) (map (λ x. record { chip = start; cells = q; cell = x }) (filter (is_unit q) q.cells) ++ units_from (start + 1) ds)) (sym same)
    (subst (λ (k : ℕ). Among {T = ChipUnit} (record { chip = k; cells = c; cell = cell }) (map (λ x. record { chip = start; cells = c; cell = x }) (filter (is_unit c) c.cells) ++ units_from (start + 1) ds)) number
    (among-left (record { chip = start; cells = c; cell = cell }) (map (λ x. record { chip = start; cells = c; cell = x }) (filter (is_unit c) c.cells)) (units_from (start + 1) ds)
    (map-among (λ (x : Cell). record { chip = start; cells = c; cell = x }) cell (filter (is_unit c) c.cells) (among-filter (is_unit c) cell c.cells a h))))
unit-among start (suc i) j (d ∷ ds) c cell e at a h =
    among-right (record { chip = j; cells = c; cell = cell }) (map (λ x. record { chip = start; cells = d; cell = x }) (filter (is_unit d) d.cells)) (units_from (start + 1) ds)
    (unit-among (start + 1) i j ds c cell e (omega arith) a h)

chips-apart : (lines : List ChipLine) (chips : List ChipCells) → ArePals lines chips → AllByRecursion (λ c. PinsApart c.cells) chips
chips-apart [] [] h = tt
chips-apart [] (c ∷ cs) h = absurd h
chips-apart (l ∷ ls) [] h = absurd h
chips-apart (l ∷ ls) (c ∷ cs) h =
    let p = h.0 in
    (subst (λ (d : ChipCells). PinsApart d.cells) (sym p.cells_are) (made-apart (pal_cell l.kind p.bits) (cell_pins l.kind) (pal-pin l.kind p.bits) (pal16-table l.kind p.pal).distinct), chips-apart ls cs h.1)

pub pal-apart : (lines : List ChipLine) (chips : List ChipCells) → ArePals lines chips → AreApart (units_from 0 chips)
pal-apart lines chips h = units-apart 0 chips (chips-apart lines chips h)

pub among-of : (pins : List ℕ) (pin : ℕ) (qs : List ℕ) → list_all (is_among pins) qs ≡ true → Among pin qs → Among pin pins
among-of pins pin qs e a =
    let found = any-among (λ p. eqb p pin) pins (all-pass (is_among pins) pin qs e a) in
    let same : found.0 ≡ pin = eqb-true found.0 pin found.2 in
    subst (λ (q : ℕ). Among q pins) same found.1

-- the new chip of a unit
pub unit-chip : (net : Net) (chips : List ChipCells) (u : ChipUnit) (p : IsPalUnit net chips u) → slice_get (same_chips net chips) u.chip ≡ Some (same_chip (board_of net (units_from 0 chips)) u.chip p.line u.cells)
unit-chip net chips u p = same-chip (board_of net (units_from 0 chips)) 0 u.chip u.chip net.chips chips p.line u.cells p.line_is p.cells_is (omega arith)

pub unit-chip_at : (net : Net) (chips : List ChipCells) (u : ChipUnit) (p : IsPalUnit net chips u) → chip_at (same_chips net chips) u.chip ≡ same_chip (board_of net (units_from 0 chips)) u.chip p.line u.cells
unit-chip_at net chips u p = chip-at (same_chips net chips) u.chip (same_chip (board_of net (units_from 0 chips)) u.chip p.line u.cells) (unit-chip net chips u p)

pub same-found : (net : Net) (chips : List ChipCells) (j : ℕ) (line : ChipLine) (cells : ChipCells) → slice_get net.chips j ≡ Some line → slice_get chips j ≡ Some cells →
    slice_get (same_chips net chips) j ≡ Some (same_chip (board_of net (units_from 0 chips)) j line cells)
same-found net chips j line cells line_is cells_is = same-chip (board_of net (units_from 0 chips)) 0 j j net.chips chips line cells line_is cells_is (omega arith)

-- each unit keeps its pin
pub unit-on : (net : Net) (chips : List ChipCells) (i : ℕ) (u : ChipUnit) → ArePals net.chips chips → slice_get (units_from 0 chips) i ≡ Some u →
    unit_on (chip_at (same_chips net chips) u.chip).units u.cell.pin ≡ Some (old_rows (circuit_on net (units_from 0 chips)) u.cell.pin i)
unit-on net chips i u pals e =
    ap (λ (c : NewChip). unit_on c.units u.cell.pin) (unit-chip_at net chips u (pal-unit net chips u pals (among-get (units_from 0 chips) i u e)))
    ∙ placed-on (circuit_on net (units_from 0 chips)) 0 i (units_from 0 chips) u (pal-apart net.chips chips pals) e
    ∙ ap (λ (n : ℕ). Some (old_rows (circuit_on net (units_from 0 chips)) u.cell.pin n)) (omega arith)

-- a new chip is one of these
pub record IsSameChip (net : Net) (chips : List ChipCells) (j : ℕ) (chip : NewChip) : Type 0 where
  pub line : ChipLine
  pub cells : ChipCells
  pub line_is : slice_get net.chips j ≡ Some line
  pub cells_is : slice_get chips j ≡ Some cells
  pub pal : IsPalChip line cells
  pub chip_is : chip ≡ same_chip (board_of net (units_from 0 chips)) j line cells

same-back : (b : OldBoard) (start i : ℕ) (lines : List ChipLine) (chips : List ChipCells) (chip : NewChip) → slice_get (same_chips_from b start lines chips) i ≡ Some chip → ArePals lines chips →
    (p : PalAt lines chips i) × (chip ≡ same_chip b (start + i) p.line p.cells)
same-back b start i [] chips chip e h = cc
same-back b start i (l ∷ ls) [] chip e h = cc
same-back b start zero (l ∷ ls) (c ∷ cs) chip e h =
    let number : start ≡ start + 0 = omega arith in
    (record { line = l; cells = c; line_is = refl; cells_is = refl; chip = h.0 }, sym (same_Some (same_chip b start l c) chip e) ∙ ap (λ (k : ℕ). same_chip b k l c) number)
same-back b start (suc i) (l ∷ ls) (c ∷ cs) chip e h =
    let r = same-back b (start + 1) i ls cs chip e h.1 in
    let p = r.0 in
    let number : start + 1 + i ≡ start + suc i = omega arith in
    (record { line = p.line; cells = p.cells; line_is = p.line_is; cells_is = p.cells_is; chip = p.chip }, r.1 ∙ ap (λ (k : ℕ). same_chip b k p.line p.cells) number)

pub new-same : (net : Net) (chips : List ChipCells) (j : ℕ) (chip : NewChip) → ArePals net.chips chips → slice_get (same_chips net chips) j ≡ Some chip → IsSameChip net chips j chip
new-same net chips j chip pals e =
    let r = same-back (board_of net (units_from 0 chips)) 0 j net.chips chips chip e pals in
    let p = r.0 in
    let number : 0 + j ≡ j = omega arith in
    record { line = p.line; cells = p.cells; line_is = p.line_is; cells_is = p.cells_is; pal = p.chip; chip_is = r.1 ∙ ap (λ (k : ℕ). same_chip (board_of net (units_from 0 chips)) k p.line p.cells) number }

pub unit-from : (net : Net) (chips : List ChipCells) (j : ℕ) (chip : NewChip) (pin : ℕ) (x : PlacedUnit) → ArePals net.chips chips → slice_get (same_chips net chips) j ≡ Some chip → unit_on chip.units pin ≡ Some x →
    IsUnitAt (units_from 0 chips) (j, pin) x.unit
unit-from net chips j chip pin x pals e on =
    let s = new-same net chips j chip pals e in
    let r = placed-from (circuit_on net (units_from 0 chips)) j 0 (units_from 0 chips) pin x (ap (λ (c : NewChip). unit_on c.units pin) (sym s.chip_is) ∙ on) in
    let number : x.unit ≡ 0 + r.0 = r.1 in
    let same : r.0 ≡ x.unit = omega arith in
    subst (IsUnitAt (units_from 0 chips) (j, pin)) same r.2

-- what stays to be shown of each form of boards
pub record UnitsDrive (net : Net) (chips : List ChipCells) : Type 0 where
  pub pals : ArePals net.chips chips
  pub lines : LinesFit net
  pub enabled : (u : ChipUnit) → Among u (units_from 0 chips) →
      can_drive (driver_of (rebuilt_net (board_of net (units_from 0 chips)) (same_chips net chips)) (rebuilt_units (board_of net (units_from 0 chips)) (same_chips net chips))
      (rebuilt_unit (board_of net (units_from 0 chips)) (same_chips net chips) u)).enable
      ≡ can_drive (driver_of net (units_from 0 chips) u).enable
  pub undriven : (j : ℕ) (chip : NewChip) (pin n : ℕ) → slice_get (same_chips net chips) j ≡ Some chip → unit_on chip.units pin ≡ None →
      pin_net (board_of net (units_from 0 chips)) chip pin ≡ Some n → private_from net ≤ n → has_no_driver (slice_get (circuit_on net (units_from 0 chips)).nets n) ≡ true

pub units-fit : (net : Net) (chips : List ChipCells) → UnitsDrive net chips → UnitsFit (board_of net (units_from 0 chips)) (same_chips net chips)
units-fit net chips d = record {
  lines = d.lines;
  circuit_is = refl;
  chip = λ u a.
      let p = pal-unit net chips u d.pals a in
      unit-chip net chips u p ∙ ap (λ (c : NewChip). Some c) (sym (unit-chip_at net chips u p));
  on = λ i u e. unit-on net chips i u d.pals e;
  old_pin = λ u a.
      let p = pal-unit net chips u d.pals a in
      let t = pal16-table p.line.kind p.chip.pal in
      among-pins 0 u.chip u.chip net.chips p.line u.cell.pin p.line_is (omega arith)
      (subst (Among u.cell.pin) (sym t.ordinary) (among-of (ordinary_pins Gal16V8) u.cell.pin (cell_pins p.line.kind) t.cells_ordinary p.pin));
  new_pin = λ u a.
      let p = pal-unit net chips u d.pals a in
      let t = pal16-table p.line.kind p.chip.pal in
      subst (λ (k : Kind). Among u.cell.pin (ordinary_pins k)) (sym (ap (λ (c : NewChip). c.kind) (unit-chip_at net chips u p) ∙ t.gal))
      (among-of (ordinary_pins Gal16V8) u.cell.pin (cell_pins p.line.kind) t.cells_ordinary p.pin);
  from = λ j chip pin x e on.
      let r = unit-from net chips j chip pin x d.pals e on in
      (r.unit, r.found, r.place);
  enabled = d.enabled;
  undriven = d.undriven;
}

-- each unit becomes a unit
pub record UnitsStay (net : Net) (chips : List ChipCells) : Type 0 where
  pub each : (u : ChipUnit) → Among u (units_from 0 chips) → makes_unit false (new_cell (board_of net (units_from 0 chips)) (chip_at (same_chips net chips) u.chip) u.cell.pin).form ≡ true

-- a pin is that of a unit on the new chip where it was on the old one
cell-stays : (net : Net) (chips : List ChipCells) (j pin : ℕ) (line : ChipLine) (cells : ChipCells) → ArePals net.chips chips → UnitsStay net chips →
    slice_get net.chips j ≡ Some line → slice_get chips j ≡ Some cells → (p : IsPalChip line cells) → Among pin (cell_pins line.kind) →
    makes_unit false (new_cell (board_of net (units_from 0 chips)) (same_chip (board_of net (units_from 0 chips)) j line cells) pin).form ≡ makes_unit false (pal_cell line.kind p.bits pin).form
cell-stays net chips j pin line cells pals stay line_is cells_is p a = at (makes_unit false (pal_cell line.kind p.bits pin).form) refl
  where
    found : slice_get (same_chips net chips) j ≡ Some (same_chip (board_of net (units_from 0 chips)) j line cells)
    found = same-chip (board_of net (units_from 0 chips)) 0 j j net.chips chips line cells line_is cells_is (omega arith)

    passes : is_unit cells (pal_cell line.kind p.bits pin) ≡ makes_unit false (pal_cell line.kind p.bits pin).form
    passes = unit-passes cells (pal_cell line.kind p.bits pin) (pal-not_22 line cells p)

    among : Among (pal_cell line.kind p.bits pin) cells.cells
    among = subst (λ (c : ChipCells). Among (pal_cell line.kind p.bits pin) c.cells) (sym p.cells_are) (map-among (pal_cell line.kind p.bits) pin (cell_pins line.kind) a)

    none : (o : Option PlacedUnit) → unit_on (same_chip (board_of net (units_from 0 chips)) j line cells).units pin ≡ o → makes_unit false (pal_cell line.kind p.bits pin).form ≡ false → o ≡ None
    none None e idle_ = refl
    none (Some x) e idle_ =
        let r = unit-from net chips j (same_chip (board_of net (units_from 0 chips)) j line cells) pin x pals found e in
        let q = pal-unit net chips r.unit pals (among-get (units_from 0 chips) x.unit r.unit r.found) in
        let chip : r.unit.chip ≡ j = ap (λ (q : At). q.0) r.place in
        let its_pin : r.unit.cell.pin ≡ pin = ap (λ (q : At). q.1) r.place in
        let cells_same : r.unit.cells ≡ cells = same_Some r.unit.cells cells (sym q.cells_is ∙ ap (slice_get chips) chip ∙ cells_is) in
        let cell = among-map (pal_cell line.kind p.bits) r.unit.cell (cell_pins line.kind)
        (subst (λ (c : ChipCells). Among r.unit.cell c.cells) (cells_same ∙ p.cells_are) (unit-of 0 chips r.unit (among-get (units_from 0 chips) x.unit r.unit r.found)).cell) in
        let cell_pin : cell.0 ≡ pin = sym (pal-pin line.kind p.bits cell.0) ∙ sym (ap (λ (c : Cell). c.pin) cell.2) ∙ its_pin in
        let yes : true ≡ false = sym q.passes ∙ ap (λ (c : Cell). makes_unit false c.form) (cell.2 ∙ ap (pal_cell line.kind p.bits) cell_pin) ∙ idle_ in
        cc

    at : (q : Bool) → makes_unit false (pal_cell line.kind p.bits pin).form ≡ q →
        makes_unit false (new_cell (board_of net (units_from 0 chips)) (same_chip (board_of net (units_from 0 chips)) j line cells) pin).form ≡ q
    at true e =
        let u = unit-among 0 j j chips cells (pal_cell line.kind p.bits pin) cells_is (omega arith) among (passes ∙ e) in
        ap (λ (c : NewChip). makes_unit false (new_cell (board_of net (units_from 0 chips)) c pin).form) (sym (chip-at (same_chips net chips) j (same_chip (board_of net (units_from 0 chips)) j line cells) found))
        ∙ ap (λ (k : ℕ). makes_unit false (new_cell (board_of net (units_from 0 chips)) (chip_at (same_chips net chips) j) k).form) (sym (pal-pin line.kind p.bits pin))
        ∙ stay.each (record { chip = j; cells = cells; cell = pal_cell line.kind p.bits pin }) u
    at false e =
        ap (λ (o : Option PlacedUnit). makes_unit false (cell_of (board_of net (units_from 0 chips)) (same_chip (board_of net (units_from 0 chips)) j line cells) pin o).form)
        (none (unit_on (same_chip (board_of net (units_from 0 chips)) j line cells).units pin) refl e)

chips-rebuilt : (net : Net) (all : List ChipCells) (start : ℕ) (lines : List ChipLine) (chips : List ChipCells) → ArePals net.chips all → UnitsStay net all → ArePals lines chips →
    ((i : ℕ) (line : ChipLine) → slice_get lines i ≡ Some line → slice_get net.chips (start + i) ≡ Some line) →
    ((i : ℕ) (cells : ChipCells) → slice_get chips i ≡ Some cells → slice_get all (start + i) ≡ Some cells) →
    units_from start (map (λ f. f.cells) (map (fitted (board_of net (units_from 0 all))) (same_chips_from (board_of net (units_from 0 all)) start lines chips)))
    ≡ map (rebuilt_unit (board_of net (units_from 0 all)) (same_chips net all)) (units_from start chips)
chips-rebuilt net all start [] [] pals stay h line_at cells_at = refl
chips-rebuilt net all start [] (c ∷ cs) pals stay h line_at cells_at = absurd h
chips-rebuilt net all start (l ∷ ls) [] pals stay h line_at cells_at = absurd h
chips-rebuilt net all start (l ∷ ls) (c ∷ cs) pals stay h line_at cells_at =
    let b = board_of net (units_from 0 all) in
    let chip = same_chip (board_of net (units_from 0 all)) start l c in
    let p = h.0 in
    let here : start + 0 ≡ start = omega arith in
    let line_is : slice_get net.chips start ≡ Some l = ap (slice_get net.chips) (sym here) ∙ line_at 0 l refl in
    let cells_is : slice_get all start ≡ Some c = ap (slice_get all) (sym here) ∙ cells_at 0 c refl in
    let table = pal16-table l.kind p.pal in
    let pins : cell_pins chip.kind ≡ cell_pins l.kind = ap cell_pins table.gal ∙ table.cells in
    let found : chip_at (same_chips net all) start ≡ chip = chip-at (same_chips net all) start chip (same-chip (board_of net (units_from 0 all)) 0 start start net.chips all l c line_is cells_is (omega arith)) in
    let not_22 : is_22 chip.kind ≡ false = ap is_22 table.gal in
    let first = units-made (cell_pins l.kind) (pal_cell l.kind p.bits) (new_cell b chip) (is_unit (new_cells b chip)) (is_unit c)
    (λ (cell : Cell). record { chip = start; cells = new_cells b chip; cell = cell })
    (λ (cell : Cell). rebuilt_unit b (same_chips net all) (record { chip = start; cells = c; cell = cell }))
    (λ pin a.
    unit-passes (new_cells b chip) (new_cell b chip pin) not_22 ∙ cell-stays net all start pin l c pals stay line_is cells_is p a
    ∙ sym (unit-passes c (pal_cell l.kind p.bits pin) (pal-not_22 l c p)))
    (λ pin a.
    ap (λ (k : ℕ). record { chip = start; cells = new_cells b chip; cell = new_cell b chip k }) (sym (pal-pin l.kind p.bits pin))
    ∙ ap (λ (x : NewChip). record { chip = start; cells = new_cells b x; cell = new_cell b x (pal_cell l.kind p.bits pin).pin }) (sym found)) in
    ap (λ (ps : List ℕ). map (λ (cell : Cell). record { chip = start; cells = new_cells b chip; cell = cell }) (filter (is_unit (new_cells b chip)) (map (new_cell b chip) ps))
    ++ units_from (start + 1) (map (λ f. f.cells) (map (fitted b) (same_chips_from (board_of net (units_from 0 all)) (start + 1) ls cs)))) pins
    ∙ ap (λ (xs : List ChipUnit). xs ++ units_from (start + 1) (map (λ f. f.cells) (map (fitted b) (same_chips_from (board_of net (units_from 0 all)) (start + 1) ls cs))))
    (first ∙ ap (λ (d : ChipCells). map (λ (cell : Cell). rebuilt_unit b (same_chips net all) (record { chip = start; cells = c; cell = cell })) (filter (is_unit c) d.cells)) (sym p.cells_are)
    ∙ sym (map-twice (rebuilt_unit b (same_chips net all)) (λ (cell : Cell). record { chip = start; cells = c; cell = cell }) (filter (is_unit c) c.cells)))
    ∙ ap (λ (rest : List ChipUnit). map (rebuilt_unit b (same_chips net all)) (map (λ (cell : Cell). record { chip = start; cells = c; cell = cell }) (filter (is_unit c) c.cells)) ++ rest)
    (chips-rebuilt net all (start + 1) ls cs pals stay h.1
    (λ i line e. let there : start + 1 + i ≡ start + suc i = omega arith in ap (slice_get net.chips) there ∙ line_at (suc i) line e)
    (λ i cells e. let there : start + 1 + i ≡ start + suc i = omega arith in ap (slice_get all) there ∙ cells_at (suc i) cells e))
    ∙ sym (map-append (rebuilt_unit b (same_chips net all)) (map (λ (cell : Cell). record { chip = start; cells = c; cell = cell }) (filter (is_unit c) c.cells)) (units_from (start + 1) cs))

-- the units of the new chips are what becomes of the units
pub units-rebuilt : (net : Net) (chips : List ChipCells) → ArePals net.chips chips → UnitsStay net chips →
    units_from 0 (map (λ f. f.cells) (map (fitted (board_of net (units_from 0 chips))) (same_chips net chips)))
    ≡ rebuilt_units (board_of net (units_from 0 chips)) (same_chips net chips)
units-rebuilt net chips pals stay = chips-rebuilt net chips 0 net.chips chips pals stay pals
    (λ i line e. let there : 0 + i ≡ i = omega arith in ap (slice_get net.chips) there ∙ e)
    (λ i cells e. let there : 0 + i ≡ i = omega arith in ap (slice_get chips) there ∙ e)
