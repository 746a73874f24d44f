-- The fuses that are written for a GAL22V10 make its cells again.
use Rattle.std.proofs.Common.{ℕ, ◌≡◌, ◌+◌, ◌-◌, ◌*◌, ◌<◌, Bool, true, false, not, if◌then◌else◌, filter, List, [], ◌∷◌, ◌++◌, map, reverse, replicate, length, get_or, refl, sym, ap, ◌∙◌, subst, arith, IsTrue, Result, Ok, Err}
use Rattle.std.specs.List.{AllByRecursion, flat_map}
use Rattle.std.proofs.lemmas.List.{map-append, reverse-append, reverse-reverse, length-append, length-map, length-replicate}
use Rattle.mig_base.specs.declared.kinds.Kind.{Kind}
use Rattle.mig_base.specs.declared.kinds.Kind.TheVariants.{Gal22V10, Gal22V10Q}
use Rattle.mig_base.specs.declared.kinds.Mode.{Mode}
use Rattle.mig_base.specs.declared.kinds.Mode.TheVariants.{Fixed}
use Rattle.mig_base.specs.declared.cells.Lit.{Lit}
use Rattle.mig_base.specs.declared.cells.Row.{Row}
use Rattle.mig_base.specs.declared.cells.Row.TheVariants as row
use Rattle.mig_base.specs.declared.cells.Form.{Form}
use Rattle.mig_base.specs.declared.cells.Form.TheVariants as form
use Rattle.mig_base.specs.declared.cells.Cell.{Cell}
use Rattle.mig_base.specs.declared.cells.ChipCells.{ChipCells}
use Rattle.mig_base.specs.declared.cells.ChipError.{ChipError}
use Rattle.mig_base.specs.declared.cells.ChipError.TheVariants.{Count}
use Rattle.mig_base.specs.First.{made_from}
use Rattle.mig_base.specs.DeviceTables.{cell_pins, rows_22, has_count, is_22}
use Rattle.mig_base.specs.Cells as cells
use Rattle.mig_base.specs.WellFormed.{has_mode, is_reg, registers_in, chip_columns, FitsCell, IsWellFormed}
use Rattle.mig_base.specs.WrittenCells.{column_fuse, row_fuses}
use Rattle.mig_base.proofs.ListLaws.{length-pieces, made_from-items, at-all, all-flat, all-map, all-reverse, all-both, all-append, skip, filter-map}
use Rattle.devices.proofs.RowLaws.{FitsColumns, array-row}
use Rattle.devices.proofs.MacrocellLaws.{no_cell}
use Rattle.mig_base.specs.Written22.{row_count, rows_of_cell, array_rows, v22_array, v22_fuses, s0_fuse, s1_by, s1_fuse, settings}
use Rattle.devices.proofs.V22Tables.{falling_pins, IsV22Table, v22-table, v22-width, v22-distinct}
use Rattle.v22.proofs.V22Cells.{cell-again, rows-long, rows-fit, control-fits}
use Rattle.v22.proofs.V22Layout.{cell_pin, are_in_rows, rows_end, HasCount, HasRows, flat-long, rows-placed, are_in_order, HasSettings, settings-placed}

-- a chip of the one mode that a GAL22V10 has
abbrev fixed : ChipCells → ChipCells
fixed c = record { kind = c.kind; mode = Fixed; cells = c.cells; reset = c.reset; preset = c.preset }

abbrev falling : ChipCells → List Cell
falling c = reverse c.cells

abbrev columns : ChipCells → List Lit
columns c = chip_columns (fixed c)

abbrev own : ChipCells → List Row
own c = flat_map (rows_of_cell Fixed) (falling c)

abbrev all_rows : ChipCells → List Row
all_rows c = array_rows (fixed c)

abbrev array : ChipCells → List Bool
array c = v22_array (fixed c)

abbrev behind : ChipCells → List Bool
behind c = flat_map settings (falling c) ++ replicate 64 false

abbrev bits : ChipCells → List Bool
bits c = v22_fuses (fixed c)

map-reversed : {A B : Type 0} (f : A → B) (xs : List A) → map f (reverse xs) ≡ reverse (map f xs)
map-reversed f [] = refl
map-reversed {B = B} f (x ∷ xs) =
    ap (map f) (reverse-append (x ∷ []) xs) ∙ map-append f (reverse xs) (x ∷ [])
    ∙ ap (λ (ys : List B). ys ++ f x ∷ []) (map-reversed f xs) ∙ sym (reverse-append (f x ∷ []) (map f xs))

-- a well-formed GAL22V10, and what is known of its lists
record IsV22Chip (c : ChipCells) : Type 0 where
  kind : IsTrue (is_22 c.kind)
  well : IsWellFormed (fixed c)
  table : IsV22Table c.kind
  wide : length (columns c) ≡ 44
  pins : map cell_pin (falling c) ≡ falling_pins
  counts : AllByRecursion HasCount (falling c)
  own_long : length (own c) ≡ 130
  rows : length (all_rows c) ≡ 132
  fit : AllByRecursion (FitsColumns (columns c)) (all_rows c)
  long : length (array c) ≡ 5808

v22-chip : (c : ChipCells) → IsTrue (is_22 c.kind) → IsWellFormed (fixed c) → IsV22Chip c
v22-chip c h w =
    let t = v22-table c.kind h in
    let wide : length (columns c) ≡ 44 = v22-width c.kind (registers_in c.cells) h in
    let some : 0 < length (columns c) = omega arith in
    let pins : map cell_pin (falling c) ≡ falling_pins = map-reversed cell_pin c.cells ∙ ap reverse w.pins ∙ t.falling in
    let fits = all-reverse (FitsCell c.kind Fixed (columns c)) c.cells no_cell w.cells in
    let counts : AllByRecursion HasCount (falling c) =
    all-map (FitsCell c.kind Fixed (columns c)) HasCount (falling c) fits (λ cell f. record { is = rows-long c.kind (columns c) cell t f }) in
    let end : 1 + length (own c) ≡ rows_end 1 falling_pins = flat-long (falling c) 1 counts ∙ ap (rows_end 1) pins in
    let own_long : length (own c) ≡ 130 = omega arith in
    let rows : length (all_rows c) ≡ 132 =
    (let tail : length (own c ++ c.preset ∷ []) ≡ length (own c) + 1 = length-append (own c) (c.preset ∷ []) in omega arith) in
    let own_fit = all-flat (FitsColumns (columns c)) (rows_of_cell Fixed) (falling c)
    (all-map (FitsCell c.kind Fixed (columns c)) (λ (cell : Cell). AllByRecursion (FitsColumns (columns c)) (rows_of_cell Fixed cell)) (falling c) fits (λ cell f. rows-fit c.kind (columns c) cell t some f)) in
    let fit : AllByRecursion (FitsColumns (columns c)) (all_rows c) =
    (control-fits c.kind (columns c) c.reset w.reset, all-append (FitsColumns (columns c)) (own c) (c.preset ∷ []) own_fit (control-fits c.kind (columns c) c.preset w.preset, tt)) in
    let long : length (array c) ≡ length (columns c) * length (all_rows c) = length-pieces (row_fuses (columns c)) (length (columns c)) (all_rows c)
    (at-all (λ (r : Row). length (row_fuses (columns c) r) ≡ length (columns c)) (all_rows c) row.Never (λ i n. length-map (columns c) (column_fuse (get_or (all_rows c) i row.Never)))) in
    record {
      kind = h;
      well = w;
      table = t;
      wide = wide;
      pins = pins;
      counts = counts;
      own_long = own_long;
      rows = rows;
      fit = fit;
      long = long ∙ ap (λ (n : ℕ). length (columns c) * n) rows ∙ ap (λ (n : ℕ). n * 132) wide;
    }

-- the settings that are read are those of each cell

record HasBits (c : ChipCells) (cell : Cell) : Type 0 where
  s0 : cells.s0_at (bits c) cell.pin ≡ s0_fuse cell
  s1 : cells.s1_at (bits c) cell.pin ≡ s1_fuse cell

settings-read : (c : ChipCells) → IsV22Chip c → AllByRecursion (HasBits c) (falling c)
settings-read c v =
    all-map (HasSettings (behind c)) (HasBits c) (falling c)
    (settings-placed (falling c) [] (replicate 64 false) 0 refl (ap (are_in_order 0) v.pins))
    (λ cell h.
    let place : 5809 + 2 * (23 - cell.pin) ≡ 5808 + (2 * (23 - cell.pin) + 1) = omega arith in
    record {
      s0 = skip (array c) (behind c) 5808 (2 * (23 - cell.pin)) false v.long ∙ h.s0;
      s1 = ap (cells.bit_at (bits c)) place ∙ skip (array c) (behind c) 5808 (2 * (23 - cell.pin) + 1) false v.long ∙ h.s1;
    })

rising : (c : ChipCells) (P : Cell → Type 0) → AllByRecursion P (falling c) → AllByRecursion P c.cells
rising c P h = subst (AllByRecursion P) (reverse-reverse c.cells) (all-reverse P (falling c) no_cell h)

-- the registers that are read are those of the cells

reg-by-s1 : (f : Form) → not (s1_by f) ≡ is_reg f
reg-by-s1 form.Idle = refl
reg-by-s1 form.Comb = refl
reg-by-s1 form.Reg = refl

registers-read : (c : ChipCells) → IsV22Chip c → cells.registers_22 c.kind (bits c) ≡ registers_in c.cells
registers-read c v =
    ap (filter (λ (pin : ℕ). not (cells.s1_at (bits c) pin))) (sym v.well.pins)
    ∙ filter-map cell_pin (λ (pin : ℕ). not (cells.s1_at (bits c) pin)) (λ (cell : Cell). is_reg cell.form) c.cells
    (all-map (HasBits c) (λ (cell : Cell). not (cells.s1_at (bits c) cell.pin) ≡ is_reg cell.form) c.cells (rising c (HasBits c) (settings-read c v))
    (λ cell h. ap not h.s1 ∙ reg-by-s1 cell.form))

-- the rows that are read are those of the array, and of each cell

row-read : (c : ChipCells) → IsV22Chip c → (r : ℕ) → r < length (all_rows c) → cells.row_22 c.kind (bits c) r ≡ get_or (all_rows c) r row.Never
row-read c v r h =
    ap (λ (registers : List ℕ). cells.row_of (cells.columns_of c.kind Fixed registers) (cells.row_at 44 (bits c) r)) (registers-read c v)
    ∙ ap (λ (w : ℕ). cells.row_of (columns c) (cells.row_at w (bits c) r)) (sym v.wide)
    ∙ array-row (columns c) (all_rows c) (behind c) r (v22-distinct c.kind (registers_in c.cells) v.kind) v.fit h

rows-placed-in : (c : ChipCells) → IsV22Chip c → AllByRecursion (HasRows (all_rows c)) c.cells
rows-placed-in c v = rising c (HasRows (all_rows c)) (rows-placed (falling c) (c.reset ∷ []) (c.preset ∷ []) 1 refl (ap (are_in_rows 1) v.pins) v.counts)

-- each cell is made again

abbrev of_bits : ℕ → Bool → Bool → List Row → Cell
of_bits pin s0 s1 rows = if s1 then cells.comb_cell pin (not s0) rows else cells.reg_cell_22 pin (not s0) rows

-- what is known of a cell of the chip
record IsMade (c : ChipCells) (cell : Cell) : Type 0 where
  is : cells.cell_22 c.kind (bits c) cell.pin ≡ cell

made-again : (c : ChipCells) → IsV22Chip c → (cell : Cell) → HasBits c cell → HasRows (all_rows c) cell → FitsCell c.kind Fixed (columns c) cell → IsMade c cell
made-again c v cell b r f =
    let rows : made_from (cells.row_22 c.kind (bits c)) (rows_22 cell.pin).0 (row_count cell.pin) ≡ rows_of_cell Fixed cell =
    made_from-items (cells.row_22 c.kind (bits c)) (all_rows c) row.Never (rows_22 cell.pin).0 (row_count cell.pin) (row-read c v) r.within ∙ r.is in
    let read = made_from (cells.row_22 c.kind (bits c)) (rows_22 cell.pin).0 (row_count cell.pin) in
    record {
      is = ap (λ (s1 : Bool). of_bits cell.pin (cells.s0_at (bits c) cell.pin) s1 read) b.s1
          ∙ ap (λ (s0 : Bool). of_bits cell.pin s0 (s1_fuse cell) read) b.s0
          ∙ ap (of_bits cell.pin (s0_fuse cell) (s1_fuse cell)) rows
          ∙ cell-again (row_count cell.pin) c.kind (columns c) cell v.table f;
    }

made-all : (c : ChipCells) → IsV22Chip c → AllByRecursion (IsMade c) c.cells
made-all c v =
    let placed = all-both (HasBits c) (HasRows (all_rows c)) (λ (cell : Cell). HasBits c cell × HasRows (all_rows c) cell) c.cells
    (rising c (HasBits c) (settings-read c v)) (rows-placed-in c v) (λ cell b r. (b, r)) in
    all-both (λ (cell : Cell). HasBits c cell × HasRows (all_rows c) cell) (FitsCell c.kind Fixed (columns c)) (IsMade c) c.cells placed v.well.cells
    (λ cell p f. made-again c v cell p.0 p.1 f)

cells-back : (c : ChipCells) (xs : List Cell) → AllByRecursion (IsMade c) xs → map (cells.cell_22 c.kind (bits c)) (map cell_pin xs) ≡ xs
cells-back c [] h = refl
cells-back c (x ∷ xs) h =
    ap (λ (y : Cell). y ∷ map (cells.cell_22 c.kind (bits c)) (map cell_pin xs)) h.0.is
    ∙ ap (λ (rest : List Cell). x ∷ rest) (cells-back c xs h.1)

abbrev chip_with : Kind → List Cell → Row → Row → ChipCells
chip_with k cs reset preset = record { kind = k; mode = Fixed; cells = cs; reset = reset; preset = preset }

chip-again : (c : ChipCells) → IsV22Chip c → cells.cells_22 c.kind (bits c) ≡ fixed c
chip-again c v =
    let k = c.kind in
    let all : map (cells.cell_22 k (bits c)) (cell_pins k) ≡ c.cells =
    ap (map (cells.cell_22 k (bits c))) (sym v.well.pins) ∙ cells-back c c.cells (made-all c v) in
    let rows : length (all_rows c) ≡ 132 = v.rows in
    let reset : cells.row_22 k (bits c) 0 ≡ c.reset = row-read c v 0 (omega arith) in
    let preset : cells.row_22 k (bits c) 131 ≡ c.preset = row-read c v 131 (omega arith) ∙ skip (own c) (c.preset ∷ []) 130 0 row.Never v.own_long in
    ap (λ (cs : List Cell). chip_with k cs (cells.row_22 k (bits c) 0) (cells.row_22 k (bits c) 131)) all
    ∙ ap (λ (r : Row). chip_with k c.cells r (cells.row_22 k (bits c) 131)) reset
    ∙ ap (chip_with k c.cells c.reset) preset

flat-settings : (xs : List Cell) → length (flat_map settings xs) ≡ 2 * length xs
flat-settings [] = refl
flat-settings (x ∷ xs) = let rest : length (flat_map settings xs) ≡ 2 * length xs = flat-settings xs in omega arith

fixed-again : (c : ChipCells) → IsTrue (is_22 c.kind) → IsWellFormed (fixed c) → cells.cells_of c.kind (bits c) ≡ Ok (fixed c)
fixed-again c h w =
    let v = v22-chip c h w in
    let ten : length (falling c) ≡ 10 = sym (length-map (falling c) cell_pin) ∙ ap length v.pins in
    let shown : length (flat_map settings (falling c)) ≡ 2 * length (falling c) = flat-settings (falling c) in
    let back : length (behind c) ≡ 84 = length-append (flat_map settings (falling c)) (replicate 64 false) ∙ ap (λ (n : ℕ). length (flat_map settings (falling c)) + n) (length-replicate 64 false) ∙ omega arith in
    let front : length (array c) ≡ 5808 = v.long in
    let long : length (bits c) ≡ 5892 = length-append (array c) (behind c) ∙ omega arith in
    let count : has_count c.kind (length (bits c)) ≡ true = ap (has_count c.kind) long ∙ v.table.count 5892 in
    ap (λ (b : Bool). if b then cells.cells_by_kind c.kind (bits c) else Err (Count (length (bits c)))) count
    ∙ v.table.made (bits c)
    ∙ ap (λ (x : ChipCells). let told : Result ChipCells ChipError = Ok x in told) (chip-again c v)

mode-fixed : (k : Kind) (m : Mode) → IsTrue (is_22 k) → has_mode k m ≡ true → Fixed ≡ m
mode-fixed k Fixed h e = refl
mode-fixed Gal22V10 m h e = cc
mode-fixed Gal22V10Q m h e = cc
mode-fixed _ m h e = cc

-- the fuses that are written make the cells again
pub v22-again : (c : ChipCells) → IsTrue (is_22 c.kind) → IsWellFormed c → cells.cells_of c.kind (v22_fuses c) ≡ Ok c
v22-again c h w =
    let same : fixed c ≡ c = ap (λ (m : Mode). let x : ChipCells = record { kind = c.kind; mode = m; cells = c.cells; reset = c.reset; preset = c.preset } in x) (mode-fixed c.kind c.mode h w.mode) in
    subst (λ (x : ChipCells). cells.cells_of x.kind (v22_fuses x) ≡ Ok x) same (fixed-again c h (subst IsWellFormed (sym same) w))
