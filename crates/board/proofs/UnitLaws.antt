-- The units of a board by name, beside its units.
use Rattle.std.proofs.Common.{ℕ, zero, suc, ◌≡◌, ◌<◌, ◌+◌, Bool, true, false, List, [], ◌∷◌, ◌++◌, map, filter, take, length, get_or, refl, sym, ap, ◌∙◌, arith, length-append}
use Rattle.std.specs.Prelude.{if◌then◌else◌}
use Rattle.std.specs.List.{zip, All}
use Rattle.std.proofs.lemmas.List.{length-map}
use Rattle.std.proofs.lemmas.List.Filters.{length-filter_more}
use Rattle.std.proofs.lemmas.List.Elements.{All-nil, All-append, All-map, All-filter}
use Rattle.mig_base.specs.declared.cells.Cell.{Cell}
use Rattle.mig_base.specs.declared.cells.ChipCells.{ChipCells}
use Rattle.mig_base.specs.declared.nets.ChipLine.{ChipLine}
use Rattle.mig_base.specs.declared.nets.Net.{Net}
use Rattle.mig_base.specs.declared.nets.PinName.{PinName}
use Rattle.mig_base.specs.Boards.{At, ChipUnit, is_registered, is_unit, places_from, pins_from, privates, registers_of, units_from}
use Rattle.mig_base.specs.DeviceTables.{ordinary_pins}
use Rattle.mig_base.specs.First.{made_from}
use Rattle.equations.proofs.PrivatePins.{no_line}
use Rattle.board.specs.declared.Unit.{Unit as NamedUnit}
use Rattle.board.specs.NodeNames.{unit_name, register_pins}
use Rattle.board.specs.UnitLists.{cell_places, has_named, named_pin, registers_before, register_units, unit_on, units_on}
use Rattle.board.specs.Variables.{register_place}
use Rattle.board.proofs.ListSteps.{made-same}

pub length-places : {T : Type 0} (test : T → Bool) (i : ℕ) (xs : List T) → length (places_from test i xs) ≡ length (filter test xs)
length-places test i [] = refl
length-places {T} test i (x ∷ xs) = at (test x) (length-places test (i + 1) xs)
  where
    at : (b : Bool) → length (places_from test (i + 1) xs) ≡ length (filter test xs) →
        length ((if b then i ∷ [] else []) ++ places_from test (i + 1) xs) ≡ length (if b then x ∷ filter test xs else filter test xs)
    at true e = ap suc e
    at false e = e

-- a place for each unit
pub length-cells : (j : ℕ) (chips : List ChipCells) → length (cell_places chips) ≡ length (units_from j chips)
length-cells j [] = refl
length-cells j (c ∷ cs) =
    let unit = λ (cell : Cell). let u : ChipUnit = record { chip = j; cells = c; cell = cell } in u in
    let here : length (places_from (is_unit c) 0 c.cells) ≡ length (map unit (filter (is_unit c) c.cells)) = length-places (is_unit c) 0 c.cells ∙ sym (length-map (filter (is_unit c) c.cells) unit) in
    let later : length (cell_places cs) ≡ length (units_from (j + 1) cs) = length-cells (j + 1) cs in
    length-append (places_from (is_unit c) 0 c.cells) (cell_places cs)
    ∙ ap (λ n. n + length (cell_places cs)) here ∙ ap (λ n. length (map unit (filter (is_unit c) c.cells)) + n) later
    ∙ sym (length-append (map unit (filter (is_unit c) c.cells)) (units_from (j + 1) cs))

pub length-zip : {X Y : Type 0} (xs : List X) (ys : List Y) → length ys ≡ length xs → length (zip xs ys) ≡ length xs
length-zip [] ys e = refl
length-zip (x ∷ xs) [] e = absurd (omega arith)
length-zip (x ∷ xs) (y ∷ ys) e = ap suc (length-zip xs ys (omega arith))

pub length-units : (net : Net) (chips : List ChipCells) → length (units_on net chips) ≡ length (units_from 0 chips)
length-units net chips = length-map (zip (units_from 0 chips) (cell_places chips)) (unit_on net) ∙ length-zip (units_from 0 chips) (cell_places chips) (length-cells 0 chips)

-- these units by name, whose cells have these places
abbrev named : Net → List ChipUnit → List ℕ → List NamedUnit
named net us ps = map (unit_on net) (zip us ps)

pub named-places : (net : Net) (us : List ChipUnit) (ps : List ℕ) (i : ℕ) → length ps ≡ length us → places_from has_named i (named net us ps) ≡ places_from is_registered i us
named-places net [] ps i e = refl
named-places net (u ∷ us) [] i e = absurd (omega arith)
named-places net (u ∷ us) (p ∷ ps) i e = ap (λ (rest : List ℕ). (if is_registered u then i ∷ [] else []) ++ rest) (named-places net us ps (i + 1) (omega arith))

pub named-pins : (net : Net) (us : List ChipUnit) (ps : List ℕ) → length ps ≡ length us → map named_pin (filter has_named (named net us ps)) ≡ map (unit_name net) (filter is_registered us)
named-pins net [] ps e = refl
named-pins net (u ∷ us) [] e = absurd (omega arith)
named-pins net (u ∷ us) (p ∷ ps) e = at (is_registered u) (named-pins net us ps (omega arith))
  where
    at : (b : Bool) → map named_pin (filter has_named (named net us ps)) ≡ map (unit_name net) (filter is_registered us) →
        map named_pin (if b then unit_on net (u, p) ∷ filter has_named (named net us ps) else filter has_named (named net us ps)) ≡ map (unit_name net) (if b then u ∷ filter is_registered us else filter is_registered us)
    at true h = ap (λ (rest : List PinName). unit_name net u ∷ rest) h
    at false h = h

pub named-before : (net : Net) (us : List ChipUnit) (ps : List ℕ) (n : ℕ) → length ps ≡ length us → registers_before (named net us ps) n ≡ length (registers_of (take n us))
named-before net [] ps zero e = refl
named-before net [] ps (suc n) e = refl
named-before net (u ∷ us) [] n e = absurd (omega arith)
named-before net (u ∷ us) (p ∷ ps) zero e = refl
named-before net (u ∷ us) (p ∷ ps) (suc n) e = at (is_registered u) (named-before net us ps n (omega arith))
  where
    at : (b : Bool) → length (filter has_named (take n (named net us ps))) ≡ length (filter is_registered (take n us)) →
        length (if b then unit_on net (u, p) ∷ filter has_named (take n (named net us ps)) else filter has_named (take n (named net us ps))) ≡ length (if b then u ∷ filter is_registered (take n us) else filter is_registered (take n us))
    at true h = ap suc h
    at false h = h

-- the tables of the registers of units by name are those of the board
pub units-registers : (net : Net) (chips : List ChipCells) → places_from has_named 0 (units_on net chips) ≡ register_units chips
units-registers net chips = named-places net (units_from 0 chips) (cell_places chips) 0 (length-cells 0 chips)

pub units-pins : (net : Net) (chips : List ChipCells) → map named_pin (filter has_named (units_on net chips)) ≡ register_pins net chips
units-pins net chips = named-pins net (units_from 0 chips) (cell_places chips) (length-cells 0 chips)

pub units-before : (net : Net) (chips : List ChipCells) → made_from (registers_before (units_on net chips)) 0 (length (units_on net chips)) ≡ made_from (register_place chips) 0 (length (units_from 0 chips))
units-before net chips =
    made-same (registers_before (units_on net chips)) (register_place chips) 0 (length (units_on net chips)) (λ n. named-before net (units_from 0 chips) (cell_places chips) n (length-cells 0 chips))
    ∙ ap (made_from (register_place chips) 0) (length-units net chips)

-- the pins of a board are of its chips
pub pins-within : (j n : ℕ) (lines : List ChipLine) → j + length lines ≡ n → All (λ (q : At). q.0 < n) (pins_from j lines)
pins-within j n [] h = All-nil (λ (q : At). q.0 < n)
pins-within j n (l ∷ ls) h =
    let pin : ℕ → At = λ p. (j, p) in
    All-append (λ (q : At). q.0 < n) (map pin (ordinary_pins l.kind)) (pins_from (j + 1) ls)
    (All-map (λ (q : At). q.0 < n) pin (ordinary_pins l.kind) (λ k d i. omega arith))
    (pins-within (j + 1) n ls (omega arith))

pub privates-within : (net : Net) → All (λ (q : At). q.0 < length net.chips) (privates net)
privates-within net = All-filter (no_line net.pins) (λ (q : At). q.0 < length net.chips) (pins_from 0 net.chips) (pins-within 0 (length net.chips) net.chips (omega arith))

-- one more unit, and one more register where it has one
pub before-more : (units : List NamedUnit) (i : ℕ) (u : NamedUnit) (b : Bool) → i < length units → u ≡ get_or units i u → u.registered ≡ b →
    registers_before units (i + 1) ≡ registers_before units i + (if b then 1 else 0)
before-more units i u b h e t =
    length-filter_more has_named units i u h
    ∙ ap (λ (x : NamedUnit). registers_before units i + (if has_named x then 1 else 0)) (sym e)
    ∙ ap (λ (q : Bool). registers_before units i + (if q then 1 else 0)) t
