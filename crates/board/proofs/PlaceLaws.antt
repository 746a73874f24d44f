-- The cells of a board's units, and the registers by unit and by place.
use Rattle.std.proofs.Common.{ℕ, zero, suc, ◌≡◌, ◌<◌, ◌+◌, Bool, true, false, List, [], ◌∷◌, ◌++◌, map, filter, take, length, get_or, Some, refl, sym, ap, ◌∙◌, subst, arith}
use Rattle.std.specs.Prelude.{slice_get, if◌then◌else◌}
use Rattle.std.specs.List.{zip, AllByRecursion}
use Rattle.std.proofs.lemmas.List.{get_or-map, length-map}
use Rattle.std.proofs.lemmas.Option.{get_or_from_slice_get, same_Some}
use Rattle.mig_base.specs.declared.cells.Cell.{Cell}
use Rattle.mig_base.specs.declared.cells.ChipCells.{ChipCells}
use Rattle.mig_base.specs.declared.nets.Net.{Net}
use Rattle.mig_base.specs.Boards.{ChipUnit, is_unit, places_from, units_from}
use Rattle.mig_base.proofs.ListLaws.{all-append, all-at, item-at}
use Rattle.board.specs.declared.Unit.{Unit as NamedUnit}
use Rattle.board.specs.UnitLists.{cell_places, unit_on, units_on}
use Rattle.board.proofs.UnitLaws.{length-places, length-cells, length-zip}

-- a unit and the place of its cell, on a board of these chips
pub record IsPlaced (chips : List ChipCells) (p : ChipUnit × ℕ) : Type 0 where
  pub chip : slice_get chips p.0.chip ≡ Some p.0.cells
  pub cell : slice_get p.0.cells.cells p.1 ≡ Some p.0.cell

abbrev unit-of : ℕ → ChipCells → Cell → ChipUnit
unit-of j c cell = record { chip = j; cells = c; cell = cell }

zip-append : {X Y : Type 0} (xs zs : List X) (ys ws : List Y) → length ys ≡ length xs → zip (xs ++ zs) (ys ++ ws) ≡ zip xs ys ++ zip zs ws
zip-append [] zs [] ws e = refl
zip-append [] zs (y ∷ ys) ws e = absurd (omega arith)
zip-append (x ∷ xs) zs [] ws e = absurd (omega arith)
zip-append (x ∷ xs) zs (y ∷ ys) ws e = ap (λ rest. (x, y) ∷ rest) (zip-append xs zs ys ws (omega arith))

cells-placed : (all : List ChipCells) (j : ℕ) (c : ChipCells) → slice_get all j ≡ Some c → (i : ℕ) (cells : List Cell) → ((k : ℕ) → slice_get c.cells (i + k) ≡ slice_get cells k) →
    AllByRecursion (IsPlaced all) (zip (map (unit-of j c) (filter (is_unit c) cells)) (places_from (is_unit c) i cells))
cells-placed all j c has i [] same = tt
cells-placed all j c has i (x ∷ xs) same =
    at (is_unit c x) (cells-placed all j c has (i + 1) xs (λ k. let n : i + 1 + k ≡ i + suc k = omega arith in ap (slice_get c.cells) n ∙ same (suc k)))
  where
    at : (b : Bool) → AllByRecursion (IsPlaced all) (zip (map (unit-of j c) (filter (is_unit c) xs)) (places_from (is_unit c) (i + 1) xs)) →
        AllByRecursion (IsPlaced all) (zip (map (unit-of j c) (if b then x ∷ filter (is_unit c) xs else filter (is_unit c) xs)) ((if b then i ∷ [] else []) ++ places_from (is_unit c) (i + 1) xs))
    at true rest = (record { chip = has; cell = let n : i ≡ i + 0 = omega arith in ap (slice_get c.cells) n ∙ same 0 }, rest)
    at false rest = rest

units-placed : (all : List ChipCells) (j : ℕ) (chips : List ChipCells) → ((k : ℕ) → slice_get all (j + k) ≡ slice_get chips k) → AllByRecursion (IsPlaced all) (zip (units_from j chips) (cell_places chips))
units-placed all j [] same = tt
units-placed all j (c ∷ cs) same =
    let here : slice_get all j ≡ Some c = let n : j ≡ j + 0 = omega arith in ap (slice_get all) n ∙ same 0 in
    let long : length (places_from (is_unit c) 0 c.cells) ≡ length (map (unit-of j c) (filter (is_unit c) c.cells)) = length-places (is_unit c) 0 c.cells ∙ sym (length-map (filter (is_unit c) c.cells) (unit-of j c)) in
    subst (AllByRecursion (IsPlaced all)) (sym (zip-append (map (unit-of j c) (filter (is_unit c) c.cells)) (units_from (j + 1) cs) (places_from (is_unit c) 0 c.cells) (cell_places cs) long))
    (all-append (IsPlaced all) (zip (map (unit-of j c) (filter (is_unit c) c.cells)) (places_from (is_unit c) 0 c.cells)) (zip (units_from (j + 1) cs) (cell_places cs))
    (cells-placed all j c here 0 c.cells (λ k. let n : 0 + k ≡ k = omega arith in ap (slice_get c.cells) n))
    (units-placed all (j + 1) cs (λ k. let n : j + 1 + k ≡ j + suc k = omega arith in ap (slice_get all) n ∙ same (suc k))))

pub zip-firsts : {X Y : Type 0} (xs : List X) (ys : List Y) (n : ℕ) (p : X × Y) → slice_get (zip xs ys) n ≡ Some p → slice_get xs n ≡ Some p.0
zip-firsts [] ys n p e = cc
zip-firsts (x ∷ xs) [] n p e = cc
zip-firsts {X} {Y} (x ∷ xs) (y ∷ ys) zero p e = ap Some (ap (λ (q : X × Y). q.0) (same-pair (x, y) p e))
  where
    same-pair : (a b : X × Y) → Some a ≡ Some b → a ≡ b
    same-pair a b e = cc
zip-firsts (x ∷ xs) (y ∷ ys) (suc n) p e = zip-firsts xs ys n p e

-- a unit by name stands for a unit, whose chip and cell are where it says
pub record IsNamed (chips : List ChipCells) (u : ℕ) (r : NamedUnit) : Type 0 where
  pub unit : ChipUnit
  pub is : slice_get (units_from 0 chips) u ≡ Some unit
  pub number : r.chip ≡ unit.chip
  pub chip : slice_get chips r.chip ≡ Some unit.cells
  pub cell : slice_get unit.cells.cells r.cell ≡ Some unit.cell

pub unit-named : (net : Net) (chips : List ChipCells) (u : ℕ) (r : NamedUnit) → u < length (units_from 0 chips) → r ≡ get_or (units_on net chips) u r → IsNamed chips u r
unit-named net chips u r h e =
    let pairs : List (ChipUnit × ℕ) = zip (units_from 0 chips) (cell_places chips) in
    let long : length pairs ≡ length (units_from 0 chips) = length-zip (units_from 0 chips) (cell_places chips) (length-cells 0 chips) in
    let within : u < length pairs = omega arith in
    let found = item-at pairs u within in
    let p : ChipUnit × ℕ = found.0 in
    let at : get_or pairs u p ≡ p = get_or_from_slice_get pairs u p p found.1 in
    let placed : IsPlaced chips p = subst (IsPlaced chips) at (all-at (IsPlaced chips) pairs u p (units-placed chips 0 chips (λ k. let n : 0 + k ≡ k = omega arith in ap (slice_get chips) n)) within) in
    let is : r ≡ unit_on net p = e ∙ get_or-map (unit_on net) pairs u p r within ∙ ap (unit_on net) at in
    record {
      unit = p.0;
      is = zip-firsts (units_from 0 chips) (cell_places chips) u p found.1;
      number = ap (λ (x : NamedUnit). x.chip) is;
      chip = ap (λ (x : NamedUnit). slice_get chips x.chip) is ∙ placed.chip;
      cell = ap (λ (x : NamedUnit). slice_get p.0.cells.cells x.cell) is ∙ placed.cell;
    }

-- one that passes has its place among those that pass, so many pass before it
pub record HasPlace {T : Type 0} (test : T → Bool) (i u : ℕ) (xs : List T) : Type 0 where
  pub within : length (filter test (take u xs)) < length (filter test xs)
  pub at : get_or (places_from test i xs) (length (filter test (take u xs))) 0 ≡ i + u

here : {T : Type 0} (test : T → Bool) (i : ℕ) (y : T) (ys : List T) (b : Bool) → test y ≡ b → b ≡ true → HasPlace test i zero (y ∷ ys)
here test i y ys true e t = record { within = rw e (omega arith); at = rw e (omega arith) }
here test i y ys false e t = cc

later : {T : Type 0} (test : T → Bool) (i u : ℕ) (y : T) (ys : List T) (b : Bool) → test y ≡ b → HasPlace test (i + 1) u ys → HasPlace test i (suc u) (y ∷ ys)
later test i u y ys true e h = record { within = rw e (let w = h.within in omega arith); at = rw e (let n : i + 1 + u ≡ i + suc u = omega arith in h.at ∙ n) }
later test i u y ys false e h = record { within = rw e h.within; at = rw e (let n : i + 1 + u ≡ i + suc u = omega arith in h.at ∙ n) }

pub has-place : {T : Type 0} (test : T → Bool) (i u : ℕ) (xs : List T) (x : T) → slice_get xs u ≡ Some x → test x ≡ true → HasPlace test i u xs
has-place test i u [] x e h = cc
has-place test i zero (y ∷ ys) x e h = here test i y ys (test y) refl (ap test (same_Some y x e) ∙ h)
has-place test i (suc u) (y ∷ ys) x e h = later test i u y ys (test y) refl (has-place test (i + 1) u ys x e h)

-- the unit of each place among those that pass
pub record HasUnit {T : Type 0} (test : T → Bool) (i k : ℕ) (xs : List T) : Type 0 where
  pub number : ℕ
  pub item : T
  pub is : slice_get xs number ≡ Some item
  pub passes : test item ≡ true
  pub at : get_or (places_from test i xs) k 0 ≡ i + number
  pub before : length (filter test (take number xs)) ≡ k

first : {T : Type 0} (test : T → Bool) (i : ℕ) (y : T) (ys : List T) (b : Bool) → test y ≡ b → (0 < length (filter test ys) → HasUnit test (i + 1) zero ys) → 0 < length (if b then y ∷ filter test ys else filter test ys) → HasUnit test i zero (y ∷ ys)
first test i y ys true e rest h = record { number = 0; item = y; is = refl; passes = e; at = rw e (omega arith); before = refl }
first test i y ys false e rest h = let r = rest h in record { number = suc r.number; item = r.item; is = r.is; passes = r.passes; at = rw e (let n : i + 1 + r.number ≡ i + suc r.number = omega arith in r.at ∙ n); before = rw e r.before }

next : {T : Type 0} (test : T → Bool) (i k : ℕ) (y : T) (ys : List T) (b : Bool) → test y ≡ b → (suc k < length (filter test ys) → HasUnit test (i + 1) (suc k) ys) → (k < length (filter test ys) → HasUnit test (i + 1) k ys) →
    suc k < length (if b then y ∷ filter test ys else filter test ys) → HasUnit test i (suc k) (y ∷ ys)
next test i k y ys true e skip rest h =
    let r = rest (omega arith) in
    record { number = suc r.number; item = r.item; is = r.is; passes = r.passes; at = rw e (let n : i + 1 + r.number ≡ i + suc r.number = omega arith in r.at ∙ n); before = rw e (ap suc r.before) }
next test i k y ys false e skip rest h =
    let r = skip h in
    record { number = suc r.number; item = r.item; is = r.is; passes = r.passes; at = rw e (let n : i + 1 + r.number ≡ i + suc r.number = omega arith in r.at ∙ n); before = rw e r.before }

pub has-unit : {T : Type 0} (test : T → Bool) (i k : ℕ) (xs : List T) → k < length (filter test xs) → HasUnit test i k xs
has-unit test i k [] h = absurd (omega arith)
has-unit test i zero (y ∷ ys) h = first test i y ys (test y) refl (λ n. has-unit test (i + 1) zero ys n) h
has-unit test i (suc k) (y ∷ ys) h = next test i k y ys (test y) refl (λ n. has-unit test (i + 1) (suc k) ys n) (λ n. has-unit test (i + 1) k ys n) h
