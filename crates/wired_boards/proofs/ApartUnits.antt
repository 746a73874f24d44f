-- The units of chips whose cells are those of their kinds are on different pins.
use Rattle.std.proofs.Common.{ℕ, zero, suc, ◌≡◌, ◌⊎◌, ◌<◌, ◌≤◌, ◌+◌, Bool, true, false, not, cond, ◌&&◌, List, [], ◌∷◌, ◌++◌, map, Some, refl, sym, ap, ◌∙◌, subst, inl, inr, arith, eqb, eq-eqb}
use Rattle.std.specs.List.{AllByRecursion, filter, list_any, slice_get}
use Rattle.std.proofs.lemmas.Bool.{and_parts}
use Rattle.std.proofs.lemmas.Option.{same_Some}
use Rattle.mig_base.specs.declared.cells.Cell.{Cell}
use Rattle.mig_base.specs.declared.cells.ChipCells.{ChipCells}
use Rattle.mig_base.specs.declared.kinds.Kind.{Kind}
use Rattle.mig_base.specs.declared.nets.ChipLine.{ChipLine}
use Rattle.mig_base.specs.declared.nets.Net.{Net}
use Rattle.mig_base.specs.Among.{Among, IsApart}
use Rattle.mig_base.specs.Boards.{At, ChipUnit, at_of, circuit, is_unit, units_from}
use Rattle.mig_base.specs.DeviceTables.{cell_pins}
use Rattle.mig_base.specs.Given.{AreMade, IsGiven}
use Rattle.mig_base.specs.WellFormed.{IsWellFormed}
use Rattle.mig_base.proofs.KindFacts.{every-kind}
use Rattle.mig_base.proofs.Amongs.{among-any, among-get, map-among}
use Rattle.made_cells.proofs.MadeCells.{made-well}
use Rattle.fitting_levels.specs.Wired.{IsWired}
use Rattle.wired_boards.proofs.Wirings.{UnitsApart, units-wired}

-- numbers that a test finds different
abbrev differ : List ℕ → Bool
differ [] = true
differ (n ∷ ns) = not (list_any (eqb n) ns) && differ ns

found : (n : ℕ) (ns : List ℕ) → Among n ns → list_any (eqb n) ns ≡ true
found n ns a = among-any (eqb n) n ns a (eq-eqb n n refl)

differ-apart : (ns : List ℕ) → differ ns ≡ true → IsApart ns
differ-apart [] e = tt
differ-apart (n ∷ ns) e =
    let parts = and_parts (not (list_any (eqb n) ns)) (differ ns) e in
    ((λ a. let wrong : false ≡ true = sym (ap not (found n ns a)) ∙ parts.0 in apart wrong), differ-apart ns parts.1)
  where
    apart : false ≡ true → ⊥
    apart e = cc

kinds-differ : (k : Kind) → differ (cell_pins k) ≡ true
kinds-differ k = every-kind (λ k. differ (cell_pins k)) refl k

abbrev pin_of : Cell → ℕ
pin_of cell = cell.pin

well-apart : (c : ChipCells) → IsWellFormed c → IsApart (map pin_of c.cells)
well-apart c w = subst IsApart (sym w.pins) (differ-apart (cell_pins c.kind) (kinds-differ c.kind))

module _ (j : ℕ) (c : ChipCells) where
  abbrev unit : Cell → ChipUnit
  unit cell = record { chip = j; cells = c; cell = cell }

  abbrev with_units : List Cell → List ChipUnit → List At
  with_units cells rest = map at_of (map unit (filter (is_unit c) cells) ++ rest)

  -- a pin among them is one of the chip's or of the rest
  split : (q : At) (cells : List Cell) (rest : List ChipUnit) → Among q (with_units cells rest) → ((q.0 ≡ j) × Among q.1 (map pin_of cells)) ⊎ Among q (map at_of rest)
  split q [] rest a = inr a
  split q (x ∷ xs) rest a = at (is_unit c x) a (split q xs rest)
    where
      later : ((q.0 ≡ j) × Among q.1 (map pin_of xs)) ⊎ Among q (map at_of rest) → ((q.0 ≡ j) × Among q.1 (map pin_of (x ∷ xs))) ⊎ Among q (map at_of rest)
      later (inl h) = inl (h.0, inr h.1)
      later (inr h) = inr h

      at : (b : Bool) → Among q (map at_of (map unit (cond b (x ∷ filter (is_unit c) xs) (filter (is_unit c) xs)) ++ rest)) →
          (Among q (with_units xs rest) → ((q.0 ≡ j) × Among q.1 (map pin_of xs)) ⊎ Among q (map at_of rest)) → ((q.0 ≡ j) × Among q.1 (map pin_of (x ∷ xs))) ⊎ Among q (map at_of rest)
      at true (inl e) go = inl (ap (λ (p : At). p.0) e, inl (ap (λ (p : At). p.1) e))
      at true (inr h) go = later (go h)
      at false h go = later (go h)

  chip-apart : (cells : List Cell) (rest : List ChipUnit) → IsApart (map pin_of cells) → ((q : At) → Among q (map at_of rest) → j < q.0) → IsApart (map at_of rest) → IsApart (with_units cells rest)
  chip-apart [] rest own past apart = apart
  chip-apart (x ∷ xs) rest own past apart = at (is_unit c x) (chip-apart xs rest own.1 past apart)
    where
      fresh : Among (j, x.pin) (with_units xs rest) → ⊥
      fresh a = elim (split (j, x.pin) xs rest a) [ inl h ↦ own.0 h.1 | inr h ↦ let low : j < j = past (j, x.pin) h in omega arith ]

      at : (b : Bool) → IsApart (with_units xs rest) → IsApart (map at_of (map unit (cond b (x ∷ filter (is_unit c) xs) (filter (is_unit c) xs)) ++ rest))
      at true h = (fresh, h)
      at false h = h

chips-above : (j : ℕ) (chips : List ChipCells) (q : At) → Among q (map at_of (units_from j chips)) → j ≤ q.0
chips-above j [] q a = absurd a
chips-above j (c ∷ cs) q a = at (split j c q c.cells (units_from (j + 1) cs) a) (chips-above (j + 1) cs q)
  where
    at : ((q.0 ≡ j) × Among q.1 (map pin_of c.cells)) ⊎ Among q (map at_of (units_from (j + 1) cs)) → (Among q (map at_of (units_from (j + 1) cs)) → j + 1 ≤ q.0) → j ≤ q.0
    at (inl h) go = let e : q.0 ≡ j = h.0 in omega arith
    at (inr h) go = let low : j + 1 ≤ q.0 = go h in omega arith

chips-apart : (j : ℕ) (chips : List ChipCells) → AllByRecursion IsWellFormed chips → IsApart (map at_of (units_from j chips))
chips-apart j [] h = tt
chips-apart j (c ∷ cs) h =
    chip-apart j c c.cells (units_from (j + 1) cs) (well-apart c h.0) (λ q a. let low : j + 1 ≤ q.0 = chips-above (j + 1) cs q a in omega arith) (chips-apart (j + 1) cs h.1)

at-among : (us : List ChipUnit) (w : ℕ) (y : ChipUnit) → slice_get us w ≡ Some y → Among (at_of y) (map at_of us)
at-among us w y e = map-among at_of y us (among-get us w y e)

apart-units : (us : List ChipUnit) → IsApart (map at_of us) → UnitsApart us
apart-units [] h u w x y eu ew same = cc
apart-units (v ∷ vs) h zero zero x y eu ew same = refl
apart-units (v ∷ vs) h zero (suc w) x y eu ew same =
    absurd (h.0 (subst (λ (q : At). Among q (map at_of vs)) (sym same ∙ ap at_of (sym (same_Some v x eu))) (at-among vs w y ew)))
apart-units (v ∷ vs) h (suc u) zero x y eu ew same =
    absurd (h.0 (subst (λ (q : At). Among q (map at_of vs)) (same ∙ ap at_of (sym (same_Some v y ew))) (at-among vs u x eu)))
apart-units (v ∷ vs) h (suc u) (suc w) x y eu ew same = ap suc (apart-units vs h.1 u w x y eu ew same)

-- a board of chips whose cells are those of their kinds
pub well-wired : (net : Net) (chips : List ChipCells) → AllByRecursion IsWellFormed chips → IsWired (circuit net chips)
well-wired net chips h = units-wired net (units_from 0 chips) (apart-units (units_from 0 chips) (chips-apart 0 chips h))

all-well : (lines : List ChipLine) (chips : List ChipCells) → AreMade lines chips → AllByRecursion IsWellFormed chips
all-well [] [] made = tt
all-well [] (c ∷ cs) made = absurd made
all-well (line ∷ lines) [] made = absurd made
all-well (line ∷ lines) (c ∷ cs) made = (made-well line c made.0, all-well lines cs made.1)

-- a board of given cells
pub given-wired : (net : Net) (chips : List ChipCells) → IsGiven net chips → IsWired (circuit net chips)
given-wired net chips given = well-wired net chips (all-well net.chips chips given.cells)

-- no two units of a given board are on one pin
pub given-apart : (net : Net) (chips : List ChipCells) → IsGiven net chips → UnitsApart (units_from 0 chips)
given-apart net chips given = apart-units (units_from 0 chips) (chips-apart 0 chips (all-well net.chips chips given.cells))
