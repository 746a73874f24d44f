-- The fuses that are written for a GAL16V8 or GAL20V8 make its cells again.
use Rattle.std.proofs.lemmas.Bool.{and_parts}
use Rattle.std.proofs.Common.{ℕ, ◌≡◌, ◌+◌, ◌-◌, ◌*◌, ◌<◌, ◌≤◌, Bool, true, false, not, ◌||◌, if◌then◌else◌, List, [], ◌∷◌, ◌++◌, map, take, drop, reverse, replicate, length, get_or, refl, sym, ap, ◌∙◌, arith, IsTrue, Result, Ok, Err, Option, Some, None}
use Rattle.std.specs.Prelude.{filter}
use Rattle.std.specs.List.{AllByRecursion, list_all, flat_map}
use Rattle.std.proofs.lemmas.List.{append-nil, length-append, length-map, length-reverse, length-replicate, get_or_append_left, get_or-map, get_or-reverse, get_or-replicate}
use Rattle.mig_base.specs.declared.kinds.Kind.{Kind}
use Rattle.mig_base.specs.declared.kinds.Kind.TheVariants.{Gal16V8, Gal20V8}
use Rattle.mig_base.specs.declared.kinds.Mode.{Mode}
use Rattle.mig_base.specs.declared.kinds.Mode.TheVariants.{Fixed, Simple, Complex, Registered}
use Rattle.mig_base.specs.declared.cells.Lit.{Lit}
use Rattle.mig_base.specs.declared.cells.Row.{Row}
use Rattle.mig_base.specs.declared.cells.Row.TheVariants as row
use Rattle.mig_base.specs.declared.cells.Form.{Form}
use Rattle.mig_base.specs.declared.cells.Form.TheVariants as form
use Rattle.mig_base.specs.declared.cells.Cell.{Cell}
use Rattle.mig_base.specs.declared.cells.ChipCells.{ChipCells}
use Rattle.mig_base.specs.declared.cells.ChipError.{ChipError}
use Rattle.mig_base.specs.declared.cells.ChipError.TheVariants.{Count, Ac1InComplex}
use Rattle.mig_base.specs.First.{made_from, or_else, unless}
use Rattle.mig_base.specs.DeviceTables.{cell_pins, top_pin, array_width, has_count, is_22, is_v8}
use Rattle.mig_base.specs.Cells as cells
use Rattle.mig_base.specs.Cells.{is_among}
use Rattle.mig_base.specs.WellFormed.{has_mode, is_reg, is_registered, registers_in, chip_columns, FitsCell, IsWellFormed, fits_row, fits_control}
use Rattle.mig_base.specs.WrittenCells.{column_fuse, row_fuses, cell_rows, xor_fuse, ac1_by, ac1_fuse, syn_fuse, ac0_fuse, v8_array, v8_settings, v8_fuses}
use Rattle.mig_base.proofs.ListLaws.{length-pieces, piece-at, made_from-items, all-at, at-all, all-flat, all-map, all-reverse, all-both, skip, first-of, get_or-made_from, filter-map, filter-none}
use Rattle.devices.proofs.RowLaws.{FitsColumns, array-row}
use Rattle.devices.proofs.MacrocellLaws.{IsV8Table, v8-table, v8-width, v8-distinct, cell-again, eight-rows, rows-fit, no-register, no_cell}

abbrev falling : ChipCells → List Cell
falling c = reverse c.cells

abbrev chip_rows : ChipCells → List Row
chip_rows c = flat_map (cell_rows c.mode 8) (falling c)

-- a well-formed GAL16V8 or GAL20V8, and what is known of its lists
record IsV8Chip (c : ChipCells) : Type 0 where
  kind : IsTrue (is_v8 c.kind)
  well : IsWellFormed c
  table : IsV8Table c.kind
  eight : length (falling c) ≡ 8
  wide : length (chip_columns c) ≡ array_width c.kind
  rows : length (chip_rows c) ≡ 64
  fit : AllByRecursion (FitsColumns (chip_columns c)) (chip_rows c)
  long : length (v8_array c) ≡ cells.array_size c.kind

few-columns : (k : Kind) → IsTrue (is_v8 k) → 0 < array_width k
few-columns Gal16V8 h = omega arith
few-columns Gal20V8 h = omega arith
few-columns _ h = cc

v8-chip : (c : ChipCells) → IsTrue (is_v8 c.kind) → IsWellFormed c → IsV8Chip c
v8-chip c h w =
    let t = v8-table c.kind h in
    let columns = chip_columns c in
    let wide : length columns ≡ array_width c.kind = v8-width c.kind c.mode (registers_in c.cells) h w.mode in
    let some : 0 < array_width c.kind = few-columns c.kind h in
    let all : length c.cells ≡ 8 = sym (length-map c.cells (λ (cell : Cell). cell.pin)) ∙ ap length w.pins ∙ ap length t.pins in
    let eight : length (falling c) ≡ 8 = length-reverse c.cells ∙ all in
    let fits = all-reverse (FitsCell c.kind c.mode columns) c.cells no_cell w.cells in
    let each : AllByRecursion (λ (cell : Cell). length (cell_rows c.mode 8 cell) ≡ 8) (falling c) =
    all-map (FitsCell c.kind c.mode columns) (λ (cell : Cell). length (cell_rows c.mode 8 cell) ≡ 8) (falling c) fits (λ cell f. eight-rows c.kind c.mode columns cell t f) in
    let fit = all-flat (FitsColumns columns) (cell_rows c.mode 8) (falling c)
    (all-map (FitsCell c.kind c.mode columns) (λ (cell : Cell). AllByRecursion (FitsColumns columns) (cell_rows c.mode 8 cell)) (falling c) fits (λ cell f. rows-fit c.kind c.mode columns cell t (omega arith) f)) in
    let rows : length (chip_rows c) ≡ 64 = length-pieces (cell_rows c.mode 8) 8 (falling c) each ∙ ap (λ (n : ℕ). 8 * n) eight in
    let bits : length (v8_array c) ≡ length columns * length (chip_rows c) = length-pieces (row_fuses columns) (length columns) (chip_rows c)
    (at-all (λ (r : Row). length (row_fuses columns r) ≡ length columns) (chip_rows c) row.Never (λ i n. length-map columns (column_fuse (get_or (chip_rows c) i row.Never)))) in
    record { kind = h; well = w; table = t; eight = eight; wide = wide; rows = rows; fit = fit; long = bits ∙ ap (λ (n : ℕ). length columns * n) rows ∙ ap (λ (n : ℕ). n * 64) wide ∙ omega arith }

-- the settings behind the array

setting : (c : ChipCells) → IsV8Chip c → (n : ℕ) → cells.bit_at (v8_fuses c) (cells.array_size c.kind + n) ≡ get_or (v8_settings c) n false
setting c v n = skip (v8_array c) (v8_settings c) (cells.array_size c.kind) n false v.long

abbrev behind_ac1 : Mode → List Bool
behind_ac1 m = replicate 64 true ++ (syn_fuse m ∷ ac0_fuse m ∷ [])

abbrev behind_xor : ChipCells → List Bool
behind_xor c = replicate 64 false ++ (map (ac1_fuse c.mode) (falling c) ++ behind_ac1 c.mode)

past-signature : (c : ChipCells) → IsV8Chip c → (n : ℕ) → get_or (v8_settings c) (8 + (64 + n)) false ≡ get_or (map (ac1_fuse c.mode) (falling c) ++ behind_ac1 c.mode) n false
past-signature c v n =
    skip (map xor_fuse (falling c)) (behind_xor c) 8 (64 + n) false (length-map (falling c) xor_fuse ∙ v.eight)
    ∙ skip (replicate 64 false) (map (ac1_fuse c.mode) (falling c) ++ behind_ac1 c.mode) 64 n false (length-replicate 64 false)

past-ac1 : (c : ChipCells) → IsV8Chip c → (n : ℕ) → get_or (v8_settings c) (8 + (64 + (8 + n))) false ≡ get_or (behind_ac1 c.mode) n false
past-ac1 c v n = past-signature c v (8 + n) ∙ skip (map (ac1_fuse c.mode) (falling c)) (behind_ac1 c.mode) 8 n false (length-map (falling c) (ac1_fuse c.mode) ∙ v.eight)

past-disable : (c : ChipCells) → IsV8Chip c → (n : ℕ) → get_or (v8_settings c) (8 + (64 + (8 + (64 + n)))) false ≡ get_or (syn_fuse c.mode ∷ ac0_fuse c.mode ∷ []) n false
past-disable c v n = past-ac1 c v (64 + n) ∙ skip (replicate 64 true) (syn_fuse c.mode ∷ ac0_fuse c.mode ∷ []) 64 n false (length-replicate 64 true)

-- the settings by place

xor-at : (c : ChipCells) → IsV8Chip c → (pin n : ℕ) → cells.cell_place c.kind pin ≡ n → n < 8 → cells.xor_at c.kind (v8_fuses c) pin ≡ xor_fuse (get_or (falling c) n no_cell)
xor-at c v pin n p h =
    let eight : length (falling c) ≡ 8 = v.eight in
    ap (λ (k : ℕ). cells.bit_at (v8_fuses c) (cells.array_size c.kind + k)) p ∙ setting c v n
    ∙ first-of xor_fuse (falling c) (behind_xor c) n no_cell false (omega arith)

ac1-at : (c : ChipCells) → IsV8Chip c → (pin n : ℕ) → cells.cell_place c.kind pin ≡ n → n < 8 → cells.ac1_at c.kind (v8_fuses c) pin ≡ ac1_fuse c.mode (get_or (falling c) n no_cell)
ac1-at c v pin n p h =
    let eight : length (falling c) ≡ 8 = v.eight in
    let place : cells.array_size c.kind + 72 + cells.cell_place c.kind pin ≡ cells.array_size c.kind + (8 + (64 + n)) = omega arith in
    ap (cells.bit_at (v8_fuses c)) place ∙ setting c v (8 + (64 + n)) ∙ past-signature c v n
    ∙ first-of (ac1_fuse c.mode) (falling c) (behind_ac1 c.mode) n no_cell false (omega arith)

disable-at : (c : ChipCells) → IsV8Chip c → (r : ℕ) → r < 64 → cells.bit_at (v8_fuses c) (cells.array_size c.kind + 80 + r) ≡ true
disable-at c v r h =
    let place : cells.array_size c.kind + 80 + r ≡ cells.array_size c.kind + (8 + (64 + (8 + r))) = omega arith in
    ap (cells.bit_at (v8_fuses c)) place ∙ setting c v (8 + (64 + (8 + r))) ∙ past-ac1 c v r
    ∙ get_or_append_left (replicate 64 true) (syn_fuse c.mode ∷ ac0_fuse c.mode ∷ []) false r (let long : length (replicate 64 true) ≡ 64 = length-replicate 64 true in omega arith)
    ∙ get_or-replicate 64 r true false h

syn-at : (c : ChipCells) → IsV8Chip c → cells.syn c.kind (v8_fuses c) ≡ syn_fuse c.mode
syn-at c v = setting c v 144 ∙ past-disable c v 0

ac0-at : (c : ChipCells) → IsV8Chip c → cells.ac0 c.kind (v8_fuses c) ≡ ac0_fuse c.mode
ac0-at c v = setting c v 145 ∙ past-disable c v 1

settings-long : (c : ChipCells) → IsV8Chip c → length (v8_settings c) ≡ 146
settings-long c v =
    let xors : length (map xor_fuse (falling c)) ≡ 8 = length-map (falling c) xor_fuse ∙ v.eight in
    let ac1s : length (map (ac1_fuse c.mode) (falling c)) ≡ 8 = length-map (falling c) (ac1_fuse c.mode) ∙ v.eight in
    let ones : length (behind_ac1 c.mode) ≡ 66 = length-append (replicate 64 true) (syn_fuse c.mode ∷ ac0_fuse c.mode ∷ []) ∙ ap (λ (n : ℕ). n + 2) (length-replicate 64 true) in
    let rest : length (behind_xor c) ≡ 138 = length-append (replicate 64 false) (map (ac1_fuse c.mode) (falling c) ++ behind_ac1 c.mode)
    ∙ ap (λ (n : ℕ). n + length (map (ac1_fuse c.mode) (falling c) ++ behind_ac1 c.mode)) (length-replicate 64 false)
    ∙ ap (λ (n : ℕ). 64 + n) (length-append (map (ac1_fuse c.mode) (falling c)) (behind_ac1 c.mode)) ∙ omega arith in
    length-append (map xor_fuse (falling c)) (behind_xor c) ∙ omega arith

-- the place of each cell

-- a cell of the chip, its place from the first rows on, and what its settings are
record IsPlaced (c : ChipCells) (cell : Cell) : Type 0 where
  place : ℕ
  small : place < 8
  is : get_or (falling c) place no_cell ≡ cell
  pin : cells.cell_place c.kind cell.pin ≡ place
  xor : cells.xor_at c.kind (v8_fuses c) cell.pin ≡ xor_fuse cell
  ac1 : cells.ac1_at c.kind (v8_fuses c) cell.pin ≡ ac1_fuse c.mode cell

placed-at : (c : ChipCells) → IsV8Chip c → (i : ℕ) → i < 8 → IsPlaced c (get_or c.cells i no_cell)
placed-at c v i h =
    let cell = get_or c.cells i no_cell in
    let all : length c.cells ≡ 8 = sym (length-reverse c.cells) ∙ v.eight in
    let high : 7 ≤ top_pin c.kind = v.table.high in
    let pin_is : cell.pin ≡ top_pin c.kind - 7 + i =
    sym (get_or-map (λ (x : Cell). x.pin) c.cells i no_cell 0 (omega arith))
    ∙ ap (λ (ps : List ℕ). get_or ps i 0) (v.well.pins ∙ v.table.pins)
    ∙ get_or-made_from (λ (p : ℕ). p) (top_pin c.kind - 7) 8 i 0 h in
    let pin : cells.cell_place c.kind cell.pin ≡ 7 - i = omega arith in
    let small : 7 - i < 8 = omega arith in
    let back : length c.cells - 1 - (7 - i) ≡ i = omega arith in
    let is : get_or (falling c) (7 - i) no_cell ≡ cell = get_or-reverse c.cells (7 - i) no_cell (omega arith) ∙ ap (λ (k : ℕ). get_or c.cells k no_cell) back in
    record {
      place = 7 - i;
      small = small;
      is = is;
      pin = pin;
      xor = xor-at c v cell.pin (7 - i) pin small ∙ ap xor_fuse is;
      ac1 = ac1-at c v cell.pin (7 - i) pin small ∙ ap (ac1_fuse c.mode) is;
    }

placed : (c : ChipCells) → IsV8Chip c → AllByRecursion (IsPlaced c) c.cells
placed c v = at-all (IsPlaced c) c.cells no_cell (λ i h. placed-at c v i (let all : length c.cells ≡ 8 = sym (length-reverse c.cells) ∙ v.eight in omega arith))

-- the registers that are read are those of the cells

no-registers : (c : ChipCells) → IsV8Chip c → is_registered c.mode ≡ false → registers_in c.cells ≡ []
no-registers c v r = ap (map (λ (cell : Cell). cell.pin)) (filter-none (λ (cell : Cell). is_reg cell.form) c.cells
    (all-map (FitsCell c.kind c.mode (chip_columns c)) (λ (cell : Cell). is_reg cell.form ≡ false) c.cells v.well.cells (λ cell f. no-register c.kind c.mode cell.pin cell.form v.table r f.form)))

reg-by-ac1 : (f : Form) → not (ac1_by Registered f) ≡ is_reg f
reg-by-ac1 form.Idle = refl
reg-by-ac1 form.Comb = refl
reg-by-ac1 form.Reg = refl

v8-registers : (c : ChipCells) → IsV8Chip c → (m : Mode) → c.mode ≡ m → cells.v8_registers c.kind m (v8_fuses c) ≡ registers_in c.cells
v8-registers c v Registered e =
    let bits = v8_fuses c in
    ap (filter (λ (pin : ℕ). not (cells.ac1_at c.kind bits pin))) (sym v.well.pins)
    ∙ filter-map (λ (cell : Cell). cell.pin) (λ (pin : ℕ). not (cells.ac1_at c.kind bits pin)) (λ (cell : Cell). is_reg cell.form) c.cells
    (all-map (IsPlaced c) (λ (cell : Cell). not (cells.ac1_at c.kind bits cell.pin) ≡ is_reg cell.form) c.cells (placed c v)
    (λ cell p. ap not (p.ac1 ∙ ap (λ (m : Mode). ac1_by m cell.form) e) ∙ reg-by-ac1 cell.form))
v8-registers c v Simple e = sym (no-registers c v (ap is_registered e))
v8-registers c v Complex e = sym (no-registers c v (ap is_registered e))
v8-registers c v Fixed e = sym (no-registers c v (ap is_registered e))

-- the rows of the array, and those of a cell

row-at : (c : ChipCells) → IsV8Chip c → (r : ℕ) → r < length (chip_rows c) → cells.v8_row c.kind c.mode (v8_fuses c) r ≡ get_or (chip_rows c) r row.Never
row-at c v r h =
    let bits = v8_fuses c in
    let m = c.mode in
    let rows : length (chip_rows c) ≡ 64 = v.rows in
    ap (λ (b : Bool). if b then cells.row_of (cells.columns_of c.kind m (cells.v8_registers c.kind m bits)) (cells.row_at (array_width c.kind) bits r) else row.Never) (disable-at c v r (omega arith))
    ∙ ap (λ (registers : List ℕ). cells.row_of (cells.columns_of c.kind m registers) (cells.row_at (array_width c.kind) bits r)) (v8-registers c v m refl)
    ∙ ap (λ (w : ℕ). cells.row_of (chip_columns c) (cells.row_at w bits r)) (sym v.wide)
    ∙ array-row (chip_columns c) (chip_rows c) (v8_settings c) r (v8-distinct c.kind m (registers_in c.cells) v.kind v.well.mode) v.fit h

rows-of-cell : (c : ChipCells) → IsV8Chip c → (cell : Cell) → IsPlaced c cell → cells.v8_rows c.kind c.mode (v8_fuses c) cell.pin ≡ cell_rows c.mode 8 cell
rows-of-cell c v cell p =
    let rows : length (chip_rows c) ≡ 64 = v.rows in
    let eight : length (falling c) ≡ 8 = v.eight in
    let small : p.place < 8 = p.small in
    let each : AllByRecursion (λ (x : Cell). length (cell_rows c.mode 8 x) ≡ 8) (falling c) =
    all-map (FitsCell c.kind c.mode (chip_columns c)) (λ (x : Cell). length (cell_rows c.mode 8 x) ≡ 8) (falling c)
    (all-reverse (FitsCell c.kind c.mode (chip_columns c)) c.cells no_cell v.well.cells) (λ x f. eight-rows c.kind c.mode (chip_columns c) x v.table f) in
    ap (λ (n : ℕ). made_from (cells.v8_row c.kind c.mode (v8_fuses c)) (8 * n) 8) p.pin
    ∙ made_from-items (cells.v8_row c.kind c.mode (v8_fuses c)) (chip_rows c) row.Never (8 * p.place) 8 (row-at c v) (omega arith)
    ∙ ap (λ (rs : List Row). take 8 (drop (8 * p.place) rs)) (sym (append-nil (chip_rows c)))
    ∙ piece-at (cell_rows c.mode 8) 8 (falling c) [] p.place no_cell each (omega arith)
    ∙ ap (cell_rows c.mode 8) p.is

made-again : (c : ChipCells) → IsV8Chip c → (cell : Cell) → IsPlaced c cell → FitsCell c.kind c.mode (chip_columns c) cell → cells.v8_cell c.kind c.mode (v8_fuses c) cell.pin ≡ cell
made-again c v cell p f =
    let bits = v8_fuses c in
    ap (λ (b : Bool). cells.v8_cell_of c.kind c.mode b (cells.xor_at c.kind bits cell.pin) cell.pin (cells.v8_rows c.kind c.mode bits cell.pin)) p.ac1
    ∙ ap (λ (b : Bool). cells.v8_cell_of c.kind c.mode (ac1_fuse c.mode cell) b cell.pin (cells.v8_rows c.kind c.mode bits cell.pin)) p.xor
    ∙ ap (cells.v8_cell_of c.kind c.mode (ac1_fuse c.mode cell) (xor_fuse cell) cell.pin) (rows-of-cell c v cell p)
    ∙ cell-again c.kind c.mode (chip_columns c) cell v.table f

pub map-back : (g : ℕ → Cell) (xs : List Cell) → AllByRecursion (λ (x : Cell). g x.pin ≡ x) xs → map g (map (λ (x : Cell). x.pin) xs) ≡ xs
map-back g [] h = refl
map-back g (x ∷ xs) h = ap (λ (y : Cell). y ∷ map g (map (λ (z : Cell). z.pin) xs)) h.0 ∙ ap (λ (rest : List Cell). x ∷ rest) (map-back g xs h.1)

cells-again : (c : ChipCells) → IsV8Chip c → map (cells.v8_cell c.kind c.mode (v8_fuses c)) (cell_pins c.kind) ≡ c.cells
cells-again c v =
    let g = cells.v8_cell c.kind c.mode (v8_fuses c) in
    ap (map g) (sym v.well.pins)
    ∙ map-back g c.cells (all-both (IsPlaced c) (FitsCell c.kind c.mode (chip_columns c)) (λ (x : Cell). g x.pin ≡ x) c.cells (placed c v) v.well.cells (λ x p f. made-again c v x p f))

-- nothing is refused

complex-none : (k : Kind) (bits : List Bool) (pins : List ℕ) → AllByRecursion (λ (pin : ℕ). cells.ac1_at k bits pin ≡ true) pins → cells.complex_refusal k bits pins ≡ None
complex-none k bits [] h = refl
complex-none k bits (pin ∷ pins) h =
    ap (λ (b : Bool). or_else (if not (b || list_all not (take (8 * array_width k) (drop (8 * array_width k * cells.cell_place k pin) bits))) then Some (Ac1InComplex pin) else None) (cells.complex_refusal k bits pins)) h.0
    ∙ complex-none k bits pins h.1

complex-ac1 : (f : Form) → is_reg f ≡ false → ac1_by Complex f ≡ true
complex-ac1 form.Idle h = refl
complex-ac1 form.Comb h = refl
complex-ac1 form.Reg h = cc

falling-pins : (c : ChipCells) → IsV8Chip c → c.mode ≡ Complex → AllByRecursion (λ (pin : ℕ). cells.ac1_at c.kind (v8_fuses c) pin ≡ true) (made_from (λ (j : ℕ). top_pin c.kind - j) 0 8)
falling-pins c v e =
    let eight : length (falling c) ≡ 8 = v.eight in
    let high : 7 ≤ top_pin c.kind = v.table.high in
    let fits = all-reverse (FitsCell c.kind c.mode (chip_columns c)) c.cells no_cell v.well.cells in
    at-all (λ (pin : ℕ). cells.ac1_at c.kind (v8_fuses c) pin ≡ true) (made_from (λ (j : ℕ). top_pin c.kind - j) 0 8) 0 (λ j h.
    let cell = get_or (falling c) j no_cell in
    let pin : get_or (made_from (λ (i : ℕ). top_pin c.kind - i) 0 8) j 0 ≡ top_pin c.kind - (0 + j) = get_or-made_from (λ (i : ℕ). top_pin c.kind - i) 0 8 j 0 h in
    let place : cells.cell_place c.kind (top_pin c.kind - (0 + j)) ≡ j = omega arith in
    let f = all-at (FitsCell c.kind c.mode (chip_columns c)) (falling c) j no_cell fits (omega arith) in
    ap (cells.ac1_at c.kind (v8_fuses c)) pin ∙ ac1-at c v (top_pin c.kind - (0 + j)) j place h ∙ ap (λ (m : Mode). ac1_by m cell.form) e
    ∙ complex-ac1 cell.form (no-register c.kind c.mode cell.pin cell.form v.table (ap is_registered e) f.form))

no-refusal : (c : ChipCells) → IsV8Chip c → (m : Mode) → c.mode ≡ m → cells.v8_refusal c.kind (v8_fuses c) m ≡ None
no-refusal c v Complex e = complex-none c.kind (v8_fuses c) (made_from (λ (j : ℕ). top_pin c.kind - j) 0 8) (falling-pins c v e)
no-refusal c v Simple e = refl
no-refusal c v Registered e = refl
no-refusal c v Fixed e = refl

mode-again : (k : Kind) (m : Mode) → IsTrue (is_v8 k) → IsTrue (has_mode k m) → cells.v8_mode (syn_fuse m) (ac0_fuse m) ≡ Some m
mode-again k Simple h e = refl
mode-again k Complex h e = refl
mode-again k Registered h e = refl
mode-again k Fixed h e = let no : not (is_v8 k) ≡ false = ap not h in cc

control-never : (k : Kind) (columns : List Lit) (r : Row) → is_22 k ≡ false → fits_control k columns r ≡ true → row.Never ≡ r
control-never k columns row.Never n h = refl
control-never k columns (row.Product lits) n h = let yes : is_22 k ≡ true = (and_parts (is_22 k) (fits_row columns lits) h).0 in cc

abbrev of_chip : Kind → Mode → List Cell → Row → Row → Result ChipCells ChipError
of_chip k m cs reset preset = Ok (record { kind = k; mode = m; cells = cs; reset = reset; preset = preset })

-- the fuses that are written make the cells again
pub v8-again : (c : ChipCells) → IsTrue (is_v8 c.kind) → IsWellFormed c → cells.cells_of c.kind (v8_fuses c) ≡ Ok c
v8-again c h w =
    let v = v8-chip c h w in
    let k = c.kind in
    let m = c.mode in
    let bits = v8_fuses c in
    let settings : length (v8_settings c) ≡ 146 = settings-long c v in
    let array : length (v8_array c) ≡ 64 * array_width k = v.long in
    let count : has_count k (length bits) ≡ true = v.table.count (length bits) (length-append (v8_array c) (v8_settings c) ∙ omega arith) in
    let mode : cells.v8_mode (cells.syn k bits) (cells.ac0 k bits) ≡ Some m =
    ap (λ (s : Bool). cells.v8_mode s (cells.ac0 k bits)) (syn-at c v) ∙ ap (cells.v8_mode (syn_fuse m)) (ac0-at c v) ∙ mode-again k m h w.mode in
    ap (λ (b : Bool). if b then cells.cells_by_kind k bits else Err (Count (length bits))) count
    ∙ v.table.made bits
    ∙ ap (cells.v8_cells_in k bits) mode
    ∙ ap (λ (o : Option ChipError). unless o (of_chip k m (map (cells.v8_cell k m bits) (cell_pins k)) row.Never row.Never)) (no-refusal c v m refl)
    ∙ ap (λ (cs : List Cell). of_chip k m cs row.Never row.Never) (cells-again c v)
    ∙ ap (λ (r : Row). of_chip k m c.cells r row.Never) (control-never k (chip_columns c) c.reset v.table.not_22 w.reset)
    ∙ ap (λ (r : Row). of_chip k m c.cells c.reset r) (control-never k (chip_columns c) c.preset v.table.not_22 w.preset)
