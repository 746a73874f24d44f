-- Where the rows and the settings of each macrocell of a GAL22V10 stand.
use Rattle.std.proofs.Common.{ℕ, ◌≡◌, ◌+◌, ◌-◌, ◌*◌, ◌≤◌, Bool, true, false, ◌&&◌, List, [], ◌∷◌, ◌++◌, map, take, drop, length, get_or, sym, ap, ◌∙◌, subst, arith, eqb}
use Rattle.std.specs.List.{AllByRecursion, flat_map}
use Rattle.std.proofs.lemmas.List.{append_assoc, take_at, drop_at, length-append}
use Rattle.std.proofs.lemmas.Bool.{eqb-true, and_parts}
use Rattle.mig_base.specs.declared.kinds.Mode.TheVariants.{Fixed}
use Rattle.mig_base.specs.declared.cells.Row.{Row}
use Rattle.mig_base.specs.declared.cells.Cell.{Cell}
use Rattle.mig_base.specs.DeviceTables.{rows_22}
use Rattle.mig_base.proofs.ListLaws.{skip}
use Rattle.mig_base.specs.Written22.{row_count, rows_of_cell, s0_fuse, s1_fuse, settings}

abbrev pub cell_pin : Cell → ℕ
cell_pin cell = cell.pin

-- the rows of these pins stand one behind the other, from a first row on
abbrev pub are_in_rows : ℕ → List ℕ → Bool
are_in_rows n [] = true
are_in_rows n (p ∷ ps) = eqb (rows_22 p).0 n && are_in_rows (n + row_count p) ps

-- the row behind them
abbrev pub rows_end : ℕ → List ℕ → ℕ
rows_end n [] = n
rows_end n (p ∷ ps) = rows_end (n + row_count p) ps

-- a cell that has as many rows as its pin
pub record HasCount (cell : Cell) : Type 0 where
  pub is : length (rows_of_cell Fixed cell) ≡ row_count cell.pin

-- a cell whose rows stand in an array where its pin says
pub record HasRows (rows : List Row) (cell : Cell) : Type 0 where
  pub within : (rows_22 cell.pin).0 + row_count cell.pin ≤ length rows
  pub is : take (row_count cell.pin) (drop (rows_22 cell.pin).0 rows) ≡ rows_of_cell Fixed cell

pub flat-long : (xs : List Cell) (n : ℕ) → AllByRecursion HasCount xs → n + length (flat_map (rows_of_cell Fixed) xs) ≡ rows_end n (map cell_pin xs)
flat-long [] n h = omega arith
flat-long (x ∷ xs) n h =
    let own : length (rows_of_cell Fixed x) ≡ row_count x.pin = h.0.is in
    let rest : n + row_count x.pin + length (flat_map (rows_of_cell Fixed) xs) ≡ rows_end (n + row_count x.pin) (map cell_pin xs) = flat-long xs (n + row_count x.pin) h.1 in
    ap (λ (m : ℕ). n + m) (length-append (rows_of_cell Fixed x) (flat_map (rows_of_cell Fixed) xs)) ∙ omega arith ∙ rest

pub rows-placed : (xs : List Cell) (before rest : List Row) (n : ℕ) → length before ≡ n → are_in_rows n (map cell_pin xs) ≡ true → AllByRecursion HasCount xs →
    AllByRecursion (HasRows (before ++ (flat_map (rows_of_cell Fixed) xs ++ rest))) xs
rows-placed [] before rest n e h k = tt
rows-placed (x ∷ xs) before rest n e h k =
    let both = and_parts (eqb (rows_22 x.pin).0 n) (are_in_rows (n + row_count x.pin) (map cell_pin xs)) h in
    let first : (rows_22 x.pin).0 ≡ n = eqb-true (rows_22 x.pin).0 n both.0 in
    let own = rows_of_cell Fixed x in
    let tail = flat_map (rows_of_cell Fixed) xs ++ rest in
    let all = before ++ ((own ++ flat_map (rows_of_cell Fixed) xs) ++ rest) in
    let long : length own ≡ row_count x.pin = k.0.is in
    let lined : all ≡ before ++ (own ++ tail) = ap (λ (rows : List Row). before ++ rows) (append_assoc own (flat_map (rows_of_cell Fixed) xs) rest) in
    let moved : all ≡ (before ++ own) ++ tail = lined ∙ sym (append_assoc before own tail) in
    let length_is : length all ≡ n + (row_count x.pin + length tail) =
    ap length lined ∙ length-append before (own ++ tail) ∙ ap (λ (m : ℕ). length before + m) (length-append own tail) ∙ omega arith in
    let here : HasRows all x = record {
      within = omega arith;
      is = ap (λ (rows : List Row). take (row_count x.pin) (drop (rows_22 x.pin).0 rows)) lined
          ∙ ap (take (row_count x.pin)) (drop_at before (own ++ tail) (rows_22 x.pin).0 (e ∙ sym first))
          ∙ take_at own tail (row_count x.pin) long;
    } in
    let next : length (before ++ own) ≡ n + row_count x.pin = length-append before own ∙ omega arith in
    (here, subst (λ (rows : List Row). AllByRecursion (HasRows rows) xs) (sym moved) (rows-placed xs (before ++ own) rest (n + row_count x.pin) next both.1 k.1))

-- the settings of these pins stand one behind the other
abbrev pub are_in_order : ℕ → List ℕ → Bool
are_in_order n [] = true
are_in_order n (p ∷ ps) = eqb (23 - p) n && are_in_order (n + 1) ps

-- a cell whose settings stand where its pin says
pub record HasSettings (bits : List Bool) (cell : Cell) : Type 0 where
  pub s0 : get_or bits (2 * (23 - cell.pin)) false ≡ s0_fuse cell
  pub s1 : get_or bits (2 * (23 - cell.pin) + 1) false ≡ s1_fuse cell

pub settings-placed : (xs : List Cell) (before rest : List Bool) (n : ℕ) → length before ≡ 2 * n → are_in_order n (map cell_pin xs) ≡ true →
    AllByRecursion (HasSettings (before ++ (flat_map settings xs ++ rest))) xs
settings-placed [] before rest n e h = tt
settings-placed (x ∷ xs) before rest n e h =
    let both = and_parts (eqb (23 - x.pin) n) (are_in_order (n + 1) (map cell_pin xs)) h in
    let place : 23 - x.pin ≡ n = eqb-true (23 - x.pin) n both.0 in
    let tail = flat_map settings xs ++ rest in
    let all = before ++ (s0_fuse x ∷ s1_fuse x ∷ tail) in
    let here : HasSettings all x = record {
      s0 = ap (λ (m : ℕ). get_or all m false) (let at : 2 * (23 - x.pin) ≡ 2 * n + 0 = omega arith in at) ∙ skip before (s0_fuse x ∷ s1_fuse x ∷ tail) (2 * n) 0 false e;
      s1 = ap (λ (m : ℕ). get_or all m false) (let at : 2 * (23 - x.pin) + 1 ≡ 2 * n + 1 = omega arith in at) ∙ skip before (s0_fuse x ∷ s1_fuse x ∷ tail) (2 * n) 1 false e;
    } in
    let next : length (before ++ settings x) ≡ 2 * (n + 1) = length-append before (settings x) ∙ omega arith in
    (here, subst (λ (bits : List Bool). AllByRecursion (HasSettings bits) xs) (append_assoc before (settings x) tail) (settings-placed xs (before ++ settings x) rest (n + 1) next both.1))
