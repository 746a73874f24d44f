-- The units of a board and the pins that they keep.
use Rattle.std.proofs.Common.{ℕ, zero, suc, ◌≡◌, ◌+◌, Bool, true, false, not, cond, ◌&&◌, List, [], ◌∷◌, ◌++◌, map, Some, refl, sym, ap, ◌∙◌, subst, inl, inr, ◌⊎◌, eqb, eqb-true, eq-eqb, arith}
use Rattle.std.specs.List.{filter, list_any, AllByRecursion, slice_get}
use Rattle.std.proofs.lemmas.Bool.{and_parts, false_from_ne_true}
use Rattle.std.proofs.lemmas.Option.{same_Some}
use Rattle.mig_base.specs.declared.cells.Cell.{Cell}
use Rattle.mig_base.specs.declared.cells.ChipCells.{ChipCells}
use Rattle.mig_base.specs.declared.nets.ChipLine.{ChipLine}
use Rattle.mig_base.specs.Among.{Among}
use Rattle.mig_base.specs.Boards.{At, ChipUnit, at_of, is_unit, units_from}
use Rattle.mig_base.specs.WrittenBoard.{are_distinct}
use Rattle.mig_base.specs.declared.circuit.Circuit.{Circuit}
use Rattle.mig_base.proofs.ListLaws.{all-get}
use Rattle.mig_base.proofs.Amongs.{among-map, among-split, all-among, among-any}
use Rattle.new_board.specs.declared.types.PlacedUnit.{PlacedUnit}
use Rattle.new_board.specs.NewChip.{OldBoard, unit_on}
use Rattle.new_board.specs.OneForOne.{old_rows, placed_from, same_chip, same_chips_from}
use Rattle.rebuilt_boards.proofs.OldRows.{old-pin, old-unit}
use Rattle.new_board.proofs.Items.{all-filter, among-unfilter}

-- no two units have the same pin
abbrev pub IsElsewhere : At → ChipUnit → Type 0
IsElsewhere q u = at_of u ≡ q → ⊥

abbrev pub AreApart : List ChipUnit → Type 0
AreApart [] = Unit {0}
AreApart (u ∷ us) = AllByRecursion (IsElsewhere (at_of u)) us × AreApart us

placed-first : (c : Circuit) (j s : ℕ) (x : ChipUnit) (rest : List PlacedUnit) (pin : ℕ) →
    unit_on (cond (eqb x.chip j) (old_rows c x.cell.pin s ∷ []) [] ++ rest) pin ≡ cond (eqb x.chip j && eqb x.cell.pin pin) (Some (old_rows c x.cell.pin s)) (unit_on rest pin)
placed-first c j s x rest pin = at (eqb x.chip j)
  where
    at : (q : Bool) → unit_on (cond q (old_rows c x.cell.pin s ∷ []) [] ++ rest) pin ≡ cond (q && eqb x.cell.pin pin) (Some (old_rows c x.cell.pin s)) (unit_on rest pin)
    at true = ap (λ (p : ℕ). cond (eqb p pin) (Some (old_rows c x.cell.pin s)) (unit_on rest pin)) (old-pin c x.cell.pin s)
    at false = refl

both-tests : (n m i k : ℕ) → n ≡ m → i ≡ k → (eqb n m && eqb i k) ≡ true
both-tests n m i k e f = ap (λ (q : Bool). q && eqb i k) (eq-eqb n m e) ∙ eq-eqb i k f

-- a unit is found on its pin, with its old rows
pub placed-on : (c : Circuit) (s i : ℕ) (us : List ChipUnit) (u : ChipUnit) → AreApart us → slice_get us i ≡ Some u →
    unit_on (placed_from c u.chip s us) u.cell.pin ≡ Some (old_rows c u.cell.pin (s + i))
placed-on c s i [] u h e = cc
placed-on c s zero (x ∷ xs) u h e =
    let same : x ≡ u = same_Some x u e in
    let number : s ≡ s + 0 = omega arith in
    placed-first c u.chip s x (placed_from c u.chip (s + 1) xs) u.cell.pin
    ∙ ap (λ (q : Bool). cond q (Some (old_rows c x.cell.pin s)) (unit_on (placed_from c u.chip (s + 1) xs) u.cell.pin))
    (both-tests x.chip u.chip x.cell.pin u.cell.pin (ap (λ (v : ChipUnit). v.chip) same) (ap (λ (v : ChipUnit). v.cell.pin) same))
    ∙ ap (λ (v : ChipUnit). Some (old_rows c v.cell.pin s)) same ∙ ap (λ (n : ℕ). Some (old_rows c u.cell.pin n)) number
placed-on c s (suc i) (x ∷ xs) u h e =
    let apart : at_of u ≡ at_of x → ⊥ = all-get (IsElsewhere (at_of x)) xs i u h.0 e in
    let test = eqb x.chip u.chip && eqb x.cell.pin u.cell.pin in
    let number : s + 1 + i ≡ s + suc i = omega arith in
    placed-first c u.chip s x (placed_from c u.chip (s + 1) xs) u.cell.pin
    ∙ ap (λ (q : Bool). cond q (Some (old_rows c x.cell.pin s)) (unit_on (placed_from c u.chip (s + 1) xs) u.cell.pin))
    (false_from_ne_true test (λ both.
    let parts = and_parts (eqb x.chip u.chip) (eqb x.cell.pin u.cell.pin) both in
    let chips : x.chip ≡ u.chip = eqb-true x.chip u.chip parts.0 in
    let pins : x.cell.pin ≡ u.cell.pin = eqb-true x.cell.pin u.cell.pin parts.1 in
    apart (λ k. (sym chips k, sym pins k))))
    ∙ placed-on c (s + 1) i xs u h.1 e ∙ ap (λ (n : ℕ). Some (old_rows c u.cell.pin n)) number

-- a unit of a list, by its number and its pin
pub record IsUnitAt (us : List ChipUnit) (q : At) (i : ℕ) : Type 0 where
  pub unit : ChipUnit
  pub found : slice_get us i ≡ Some unit
  pub place : at_of unit ≡ q

pub placed-from : (c : Circuit) (j s : ℕ) (us : List ChipUnit) (pin : ℕ) (p : PlacedUnit) → unit_on (placed_from c j s us) pin ≡ Some p → (i : ℕ) × (p.unit ≡ s + i) × IsUnitAt us (j, pin) i
placed-from c j s [] pin p e = cc
placed-from c j s (x ∷ xs) pin p e =
    at (eqb x.chip j && eqb x.cell.pin pin) refl (sym (placed-first c j s x (placed_from c j (s + 1) xs) pin) ∙ e) (placed-from c j (s + 1) xs pin p)
  where
    at : (q : Bool) → (eqb x.chip j && eqb x.cell.pin pin) ≡ q → cond q (Some (old_rows c x.cell.pin s)) (unit_on (placed_from c j (s + 1) xs) pin) ≡ Some p →
        (unit_on (placed_from c j (s + 1) xs) pin ≡ Some p → (i : ℕ) × (p.unit ≡ s + 1 + i) × IsUnitAt xs (j, pin) i) → (i : ℕ) × (p.unit ≡ s + i) × IsUnitAt (x ∷ xs) (j, pin) i
    at true is e rest =
        let parts = and_parts (eqb x.chip j) (eqb x.cell.pin pin) is in
        let chips : x.chip ≡ j = eqb-true x.chip j parts.0 in
        let pins : x.cell.pin ≡ pin = eqb-true x.cell.pin pin parts.1 in
        let first : p.unit ≡ s = ap (λ (y : PlacedUnit). y.unit) (sym (same_Some (old_rows c x.cell.pin s) p e)) ∙ old-unit c x.cell.pin s in
        (0, omega arith, record { unit = x; found = refl; place = λ t. (chips t, pins t) })
    at false is e rest =
        let r = rest e in
        let later : p.unit ≡ s + 1 + r.0 = r.1 in
        (suc r.0, omega arith, record { unit = r.2.unit; found = r.2.found; place = r.2.place })

-- a unit is a cell of its chip
pub record IsUnitOf (start : ℕ) (chips : List ChipCells) (u : ChipUnit) : Type 0 where
  pub number : ℕ
  pub chip_is : u.chip ≡ start + number
  pub cells : slice_get chips number ≡ Some u.cells
  pub cell : Among u.cell u.cells.cells
  pub passes : is_unit u.cells u.cell ≡ true

pub unit-of : (start : ℕ) (chips : List ChipCells) (u : ChipUnit) → Among u (units_from start chips) → IsUnitOf start chips u
unit-of start [] u a = absurd a
unit-of start (c ∷ cs) u a = at (among-split u (map (λ cell. record { chip = start; cells = c; cell = cell }) (filter (is_unit c) c.cells)) (units_from (start + 1) cs) a) (unit-of (start + 1) cs u)
  where
    at : Among u (map (λ cell. record { chip = start; cells = c; cell = cell }) (filter (is_unit c) c.cells)) ⊎ Among u (units_from (start + 1) cs) →
        (Among u (units_from (start + 1) cs) → IsUnitOf (start + 1) cs u) → IsUnitOf start (c ∷ cs) u
    at (inl h) rest =
        let found = among-map (λ (cell : Cell). record { chip = start; cells = c; cell = cell }) u (filter (is_unit c) c.cells) h in
        let kept = among-unfilter (is_unit c) found.0 c.cells found.1 in
        subst (IsUnitOf start (c ∷ cs)) (sym found.2) (record { number = 0; chip_is = omega arith; cells = refl; cell = kept.0; passes = kept.1 })
    at (inr h) rest =
        let r = rest h in
        let number : u.chip ≡ start + 1 + r.number = r.chip_is in
        record { number = suc r.number; chip_is = omega arith; cells = r.cells; cell = r.cell; passes = r.passes }

-- cells of different pins
abbrev pub PinsApart : List Cell → Type 0
PinsApart [] = Unit {0}
PinsApart (c ∷ cs) = AllByRecursion (λ d. d.pin ≡ c.pin → ⊥) cs × PinsApart cs

filter-apart : (test : Cell → Bool) (cs : List Cell) → PinsApart cs → PinsApart (filter test cs)
filter-apart test [] h = tt
filter-apart test (c ∷ cs) h = at (test c) (filter-apart test cs h.1)
  where
    at : (q : Bool) → PinsApart (filter test cs) → PinsApart (cond q (c ∷ filter test cs) (filter test cs))
    at true rest = (all-filter (λ d. d.pin ≡ c.pin → ⊥) test cs h.0, rest)
    at false rest = rest

map-apart : (start : ℕ) (chip : ChipCells) (cs : List Cell) → PinsApart cs → AreApart (map (λ cell. record { chip = start; cells = chip; cell = cell }) cs)
map-apart start chip [] h = tt
map-apart start chip (c ∷ cs) h = (at cs h.0, map-apart start chip cs h.1)
  where
    at : (ds : List Cell) → AllByRecursion (λ d. d.pin ≡ c.pin → ⊥) ds → AllByRecursion (IsElsewhere (start, c.pin)) (map (λ cell. record { chip = start; cells = chip; cell = cell }) ds)
    at [] k = tt
    at (d ∷ ds) k = ((λ e. k.0 (ap (λ (q : At). q.1) e)), at ds k.1)

append-apart : (xs ys : List ChipUnit) → AreApart xs → AreApart ys → ((x y : ChipUnit) → Among x xs → Among y ys → at_of y ≡ at_of x → ⊥) → AreApart (xs ++ ys)
append-apart [] ys h k apart = k
append-apart (x ∷ xs) ys h k apart = (at xs h.0, append-apart xs ys h.1 k (λ z y a. apart z y (inr a)))
  where
    at : (zs : List ChipUnit) → AllByRecursion (IsElsewhere (at_of x)) zs → AllByRecursion (IsElsewhere (at_of x)) (zs ++ ys)
    at [] g = all-among (IsElsewhere (at_of x)) ys (λ y a. apart x y (inl refl) a)
    at (z ∷ zs) g = (g.0, at zs g.1)

-- where the cells of each chip have different pins, all units have
pub units-apart : (start : ℕ) (chips : List ChipCells) → AllByRecursion (λ c. PinsApart c.cells) chips → AreApart (units_from start chips)
units-apart start [] h = tt
units-apart start (c ∷ cs) h =
    append-apart (map (λ cell. record { chip = start; cells = c; cell = cell }) (filter (is_unit c) c.cells)) (units_from (start + 1) cs)
    (map-apart start c (filter (is_unit c) c.cells) (filter-apart (is_unit c) c.cells h.0)) (units-apart (start + 1) cs h.1)
    (λ x y a d e.
    let found = among-map (λ (cell : Cell). record { chip = start; cells = c; cell = cell }) x (filter (is_unit c) c.cells) a in
    let here : x.chip ≡ start = ap (λ (u : ChipUnit). u.chip) found.2 in
    let there = unit-of (start + 1) cs y d in
    let later : y.chip ≡ start + 1 + there.number = there.chip_is in
    let same : y.chip ≡ x.chip = ap (λ (q : At). q.0) e in
    omega arith)

-- cells that are made for different pins
pub made-apart : (f : ℕ → Cell) (pins : List ℕ) → ((p : ℕ) → (f p).pin ≡ p) → are_distinct eqb pins ≡ true → PinsApart (map f pins)
made-apart f [] is e = tt
made-apart f (p ∷ ps) is e =
    let parts = and_parts (not (list_any (eqb p) ps)) (are_distinct eqb ps) e in (
      all-among (λ (d : Cell). d.pin ≡ (f p).pin → ⊥) (map f ps) (λ d a same.
          let q = among-map f d ps a in
          let pins : p ≡ q.0 = sym (is p) ∙ sym same ∙ ap (λ (c : Cell). c.pin) q.2 ∙ is q.0 in
          let twice : list_any (eqb p) ps ≡ true = among-any (eqb p) q.0 ps q.1 (eq-eqb p q.0 pins) in
          never (list_any (eqb p) ps) twice parts.0),
      made-apart f ps is parts.1,
    )
  where
    never : (t : Bool) → t ≡ true → not t ≡ true → ⊥
    never true a b = cc
    never false a b = cc

-- the new chips

pub same-chip : (b : OldBoard) (start i j : ℕ) (lines : List ChipLine) (chips : List ChipCells) (line : ChipLine) (cells : ChipCells) →
    slice_get lines i ≡ Some line → slice_get chips i ≡ Some cells → j ≡ start + i → slice_get (same_chips_from b start lines chips) i ≡ Some (same_chip b j line cells)
same-chip b start i j [] chips line cells e f at = cc
same-chip b start i j (l ∷ ls) [] line cells e f at = cc
same-chip b start zero j (l ∷ ls) (c ∷ cs) line cells e f at =
    let lines : l ≡ line = same_Some l line e in
    let chips : c ≡ cells = same_Some c cells f in
    let number : start ≡ j = omega arith in
    λ k. Some (same_chip b (number k) (lines k) (chips k))
same-chip b start (suc i) j (l ∷ ls) (c ∷ cs) line cells e f at = same-chip b (start + 1) i j ls cs line cells e f (omega arith)

-- units that are made of the same pins
pub units-made : {S : Type 0} (pins : List ℕ) (f g : ℕ → Cell) (test other : Cell → Bool) (make mirror : Cell → S) →
    ((p : ℕ) → Among p pins → test (g p) ≡ other (f p)) → ((p : ℕ) → Among p pins → make (g p) ≡ mirror (f p)) →
    map make (filter test (map g pins)) ≡ map mirror (filter other (map f pins))
units-made [] f g test other make mirror tests makes = refl
units-made {S} (p ∷ ps) f g test other make mirror tests makes =
    ap (λ (q : Bool). map make (cond q (g p ∷ filter test (map g ps)) (filter test (map g ps)))) (tests p (inl refl))
    ∙ at (other (f p)) (units-made ps f g test other make mirror (λ q a. tests q (inr a)) (λ q a. makes q (inr a)))
  where
    at : (q : Bool) → map make (filter test (map g ps)) ≡ map mirror (filter other (map f ps)) →
        map make (cond q (g p ∷ filter test (map g ps)) (filter test (map g ps))) ≡ map mirror (cond q (f p ∷ filter other (map f ps)) (filter other (map f ps)))
    at true rest = ap (λ (s : S). s ∷ map make (filter test (map g ps))) (makes p (inl refl)) ∙ ap (λ (ss : List S). mirror (f p) ∷ ss) rest
    at false rest = rest
