-- No two units of a board have one name.
use Rattle.std.proofs.Common.{ℕ, suc, ◌≡◌, ◌+◌, Bool, true, false, cond, ◌&&◌, ◌||◌, eqb, List, [], ◌∷◌, map, get_or, refl, ap, ◌∙◌, arith}
use Rattle.std.specs.Prelude.{filter, not, ◌==◌}
use Rattle.std.specs.List.{AllByRecursion, list_any}
use Rattle.std.specs.Str.{bytes_eq}
use Rattle.std.proofs.lemmas.Bool.{and_parts, and_from, or_parts, or_from, not-true}
use Rattle.std.proofs.lemmas.Bool.Decides.{Decides-like, Decides-eqb, Decides-and}
use Rattle.std.proofs.lemmas.List.{map-append}
use Rattle.std.proofs.lemmas.List.Folds.{list_any-append}
use Rattle.std.proofs.lemmas.Slice.Eq.{bytes_eq-Decides}
use Rattle.mig_base.specs.declared.cells.Cell.{Cell}
use Rattle.mig_base.specs.declared.cells.ChipCells.{ChipCells}
use Rattle.mig_base.specs.declared.kinds.Kind.{Kind}
use Rattle.mig_base.specs.declared.nets.ChipLine.{ChipLine}
use Rattle.mig_base.specs.declared.nets.Net.{Net}
use Rattle.mig_base.specs.declared.nets.PinName.{PinName}
use Rattle.mig_base.specs.Boards.{ChipUnit, is_unit, units_from}
use Rattle.mig_base.specs.DeviceTables.{cell_pins}
use Rattle.mig_base.specs.Given.{AreMade, IsGiven}
use Rattle.mig_base.specs.WrittenBoard.{are_distinct}
use Rattle.mig_base.proofs.Distinct.{IsEqual, distinct-append}
use Rattle.mig_base.proofs.KindFacts.{every-kind}
use Rattle.made_cells.proofs.MadeCells.{made-well}
use Rattle.board.specs.Joined.{Joined}
use Rattle.board.specs.NodeNames.{chip_name, unit_name}
use Rattle.plans.specs.Placings.{same_pin, unit_names}

pub pins-equal : IsEqual same_pin
pins-equal = record { decides = λ u v. Decides-like (same_pin u v) (λ h. pair u v h) (λ e. (ap (λ (n : PinName). n.chip) e, ap (λ (n : PinName). n.pin) e)) (Decides-and _ _ (bytes_eq-Decides u.chip v.chip) (Decides-eqb u.pin v.pin)) }
  where
    named : List ℕ → ℕ → PinName
    named chip pin = record { chip = chip; pin = pin }

    pair : (u v : PinName) → (u.chip ≡ v.chip) × (u.pin ≡ v.pin) → u ≡ v
    pair u v h = ap (λ (c : List ℕ). named c u.pin) h.0 ∙ ap (named v.chip) h.1

cell-pins-distinct : (k : Kind) → are_distinct (λ p q. p == q) (cell_pins k) ≡ true
cell-pins-distinct k = every-kind (λ j. are_distinct (λ p q. p == q) (cell_pins j)) refl k

-- a cell of a chip of this number
abbrev chip_cell : ℕ → ChipCells → Cell → ChipUnit
chip_cell j c cell = record { chip = j; cells = c; cell = cell }

-- the names of cells of a chip
abbrev cell_names : Net → ℕ → ChipCells → List Cell → List PinName
cell_names net j c cells = map (unit_name net) (map (chip_cell j c) cells)

-- the names of the units of chips from this number on
abbrev names_from : Net → ℕ → List ChipCells → List PinName
names_from net j cs = map (unit_name net) (units_from j cs)

all-cells : (P : PinName → Type 0) (net : Net) (j : ℕ) (c : ChipCells) (cells : List Cell) → ((cell : Cell) → P (unit_name net (chip_cell j c cell))) → AllByRecursion P (cell_names net j c cells)
all-cells P net j c [] h = tt
all-cells P net j c (x ∷ xs) h = (h x, all-cells P net j c xs h)

-- on one chip names are one where pins are
any-pin : (net : Net) (j : ℕ) (c : ChipCells) (x : Cell) (xs : List Cell) → list_any (same_pin (unit_name net (chip_cell j c x))) (cell_names net j c xs) ≡ list_any (λ q. x.pin == q) (map (λ (cell : Cell). cell.pin) xs)
any-pin net j c x [] = refl
any-pin net j c x (y ∷ ys) =
    ap (λ (t : Bool). (t && eqb x.pin y.pin) || list_any (same_pin (unit_name net (chip_cell j c x))) (cell_names net j c ys)) ((bytes_eq-Decides (chip_name net j) (chip_name net j)).1 refl)
    ∙ ap (λ (t : Bool). eqb x.pin y.pin || t) (any-pin net j c x ys)

cells-distinct : (net : Net) (j : ℕ) (c : ChipCells) (cells : List Cell) → are_distinct (λ p q. p == q) (map (λ (cell : Cell). cell.pin) cells) ≡ true → are_distinct same_pin (cell_names net j c cells) ≡ true
cells-distinct net j c [] h = refl
cells-distinct net j c (x ∷ xs) h =
    let parts : (not (list_any (λ q. x.pin == q) (map (λ (cell : Cell). cell.pin) xs)) ≡ true) × (are_distinct (λ p q. p == q) (map (λ (cell : Cell). cell.pin) xs) ≡ true) = and_parts _ _ h in
    and_from _ _ (ap not (any-pin net j c x xs) ∙ parts.0) (cells-distinct net j c xs parts.1)

-- among fewer cells
none-kept : (t : Cell → Bool) (q : ℕ → Bool) (xs : List Cell) → list_any q (map (λ (cell : Cell). cell.pin) xs) ≡ false → list_any q (map (λ (cell : Cell). cell.pin) (filter t xs)) ≡ false
none-kept t q [] h = refl
none-kept t q (x ∷ xs) h = at (t x) (or_parts _ _ h) (none-kept t q xs (or_parts (q x.pin) _ h).1)
  where
    at : (s : Bool) → (q x.pin ≡ false) × (list_any q (map (λ (cell : Cell). cell.pin) xs) ≡ false) → list_any q (map (λ (cell : Cell). cell.pin) (filter t xs)) ≡ false →
        list_any q (map (λ (cell : Cell). cell.pin) (cond s (x ∷ filter t xs) (filter t xs))) ≡ false
    at true parts e = or_from _ _ parts.0 e
    at false parts e = e

kept-distinct : (t : Cell → Bool) (xs : List Cell) → are_distinct (λ p q. p == q) (map (λ (cell : Cell). cell.pin) xs) ≡ true → are_distinct (λ p q. p == q) (map (λ (cell : Cell). cell.pin) (filter t xs)) ≡ true
kept-distinct t [] h = refl
kept-distinct t (x ∷ xs) h = at (t x) (and_parts _ _ h) (kept-distinct t xs (and_parts (not (list_any (λ q. x.pin == q) (map (λ (cell : Cell). cell.pin) xs))) _ h).1)
  where
    at : (s : Bool) → (not (list_any (λ q. x.pin == q) (map (λ (cell : Cell). cell.pin) xs)) ≡ true) × (are_distinct (λ p q. p == q) (map (λ (cell : Cell). cell.pin) xs) ≡ true) →
        are_distinct (λ p q. p == q) (map (λ (cell : Cell). cell.pin) (filter t xs)) ≡ true → are_distinct (λ p q. p == q) (map (λ (cell : Cell). cell.pin) (cond s (x ∷ filter t xs) (filter t xs))) ≡ true
    at true parts e = and_from _ _ (ap not (none-kept t (λ q. x.pin == q) xs (not-true _ parts.0))) e
    at false parts e = e

-- the chips of a wiring from this number on have these lines
abbrev AreLines : Net → ℕ → List ChipLine → Type 0
AreLines net j ls = (k : ℕ) → chip_name net (j + k) ≡ get_or (map (λ (l : ChipLine). l.name) ls) k []

lines-here : (net : Net) (j : ℕ) (l : ChipLine) (ls : List ChipLine) → AreLines net j (l ∷ ls) → chip_name net j ≡ l.name
lines-here net j l ls h = let e : j ≡ j + 0 = omega arith in ap (chip_name net) e ∙ h 0

lines-next : (net : Net) (j : ℕ) (l : ChipLine) (ls : List ChipLine) → AreLines net j (l ∷ ls) → AreLines net (j + 1) ls
lines-next net j l ls h = λ k. let e : j + 1 + k ≡ j + suc k = omega arith in ap (chip_name net) e ∙ h (suc k)

-- a name of another chip
other-chip : (net : Net) (j : ℕ) (c : ChipCells) (n : PinName) (cells : List Cell) → bytes_eq n.chip (chip_name net j) ≡ false → list_any (same_pin n) (cell_names net j c cells) ≡ false
other-chip net j c n [] h = refl
other-chip net j c n (x ∷ xs) h = ap (λ (t : Bool). (t && eqb n.pin x.pin) || list_any (same_pin n) (cell_names net j c xs)) h ∙ other-chip net j c n xs h

other-chips : (net : Net) (j : ℕ) (n : PinName) (ls : List ChipLine) (cs : List ChipCells) → AreLines net j ls → AreMade ls cs → list_any (bytes_eq n.chip) (map (λ (l : ChipLine). l.name) ls) ≡ false →
    list_any (same_pin n) (names_from net j cs) ≡ false
other-chips net j n [] [] lines made h = refl
other-chips net j n [] (c ∷ cs) lines made h = absurd made
other-chips net j n (l ∷ ls) [] lines made h = absurd made
other-chips net j n (l ∷ ls) (c ∷ cs) lines made h =
    let parts : (bytes_eq n.chip l.name ≡ false) × (list_any (bytes_eq n.chip) (map (λ (k : ChipLine). k.name) ls) ≡ false) = or_parts _ _ h in
    let here = map (chip_cell j c) (filter (is_unit c) c.cells) in
    ap (list_any (same_pin n)) (map-append (unit_name net) here (units_from (j + 1) cs))
    ∙ list_any-append (same_pin n) (map (unit_name net) here) (names_from net (j + 1) cs)
    ∙ or_from _ _ (other-chip net j c n (filter (is_unit c) c.cells) (ap (bytes_eq n.chip) (lines-here net j l ls lines) ∙ parts.0))
    (other-chips net (j + 1) n ls cs (lines-next net j l ls lines) made.1 parts.1)

names-apart : (net : Net) (j : ℕ) (ls : List ChipLine) (cs : List ChipCells) → AreLines net j ls → AreMade ls cs → are_distinct bytes_eq (map (λ (l : ChipLine). l.name) ls) ≡ true →
    are_distinct same_pin (names_from net j cs) ≡ true
names-apart net j [] [] lines made h = refl
names-apart net j [] (c ∷ cs) lines made h = absurd made
names-apart net j (l ∷ ls) [] lines made h = absurd made
names-apart net j (l ∷ ls) (c ∷ cs) lines made h =
    let parts : (not (list_any (bytes_eq l.name) (map (λ (k : ChipLine). k.name) ls)) ≡ true) × (are_distinct bytes_eq (map (λ (k : ChipLine). k.name) ls) ≡ true) = and_parts _ _ h in
    let units = filter (is_unit c) c.cells in
    let later = lines-next net j l ls lines in
    let others : list_any (bytes_eq (chip_name net j)) (map (λ (k : ChipLine). k.name) ls) ≡ false =
    ap (λ (m : List ℕ). list_any (bytes_eq m) (map (λ (k : ChipLine). k.name) ls)) (lines-here net j l ls lines) ∙ not-true _ parts.0 in
    let pins : are_distinct (λ p q. p == q) (map (λ (cell : Cell). cell.pin) c.cells) ≡ true =
    ap (are_distinct (λ p q. p == q)) (made-well l c made.0).pins ∙ cell-pins-distinct c.kind in
    ap (are_distinct same_pin) (map-append (unit_name net) (map (chip_cell j c) units) (units_from (j + 1) cs))
    ∙ distinct-append same_pin (cell_names net j c units) (names_from net (j + 1) cs) (cells-distinct net j c units (kept-distinct (is_unit c) c.cells pins))
    (names-apart net (j + 1) ls cs later made.1 parts.1)
    (all-cells (λ n. list_any (same_pin n) (names_from net (j + 1) cs) ≡ false) net j c units (λ cell. other-chips net (j + 1) (unit_name net (chip_cell j c cell)) ls cs later made.1 others))

-- no two units of a board have one name
pub unit-names-apart : (b : Joined) → IsGiven b.net b.chips → are_distinct same_pin (unit_names b) ≡ true
unit-names-apart b given =
    names-apart b.net 0 b.net.chips b.chips (λ k. let e : 0 + k ≡ k = omega arith in ap (chip_name b.net) e) given.cells given.wiring.distinct_chips
