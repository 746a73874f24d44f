-- The pins of a wiring are different, so that each private net has the place of its pin.
use Rattle.std.proofs.Common.{ℕ, zero, suc, ◌≡◌, ◌+◌, ◌≤◌, Bool, true, false, not, cond, List, [], ◌∷◌, map, Some, is_none, refl, sym, ap, ◌∙◌, subst, inl, inr, ◌⊎◌, eqb, eq-eqb, arith}
use Rattle.std.specs.Prelude.{◌==◌}
use Rattle.std.specs.List.{filter, list_any, slice_get}
use Rattle.std.proofs.lemmas.Bool.{and_parts, not-true}
use Rattle.std.proofs.lemmas.Option.{same_Some}
use Rattle.mig_base.specs.declared.nets.ChipLine.{ChipLine}
use Rattle.mig_base.specs.declared.nets.Net.{Net}
use Rattle.mig_base.specs.Among.{Among, IsApart}
use Rattle.mig_base.specs.Boards.{At, line_at, pins_from, place_of, privates, same_at}
use Rattle.mig_base.specs.DeviceTables.{ordinary_pins}
use Rattle.mig_base.specs.WrittenBoard.{are_distinct}
use Rattle.mig_base.proofs.Amongs.{among-any, among-filter, among-get, among-map, among-split, apart-append}
use Rattle.mig_base.proofs.KindFacts.{ordinary-distinct}
use Rattle.new_board.proofs.Wiring.{at-same, same-at}

numbers-apart : (ns : List ℕ) → are_distinct (λ p q. p == q) ns ≡ true → IsApart ns
numbers-apart [] e = tt
numbers-apart (n ∷ ns) e =
    let parts : (not (list_any (eqb n) ns) ≡ true) × (are_distinct (λ p q. p == q) ns ≡ true) = and_parts _ _ e in
    ((λ a. let wrong : true ≡ false = sym (among-any (eqb n) n ns a (eq-eqb n n refl)) ∙ not-true (list_any (eqb n) ns) parts.0 in cc), numbers-apart ns parts.1)

abbrev pin_at : ℕ → ℕ → At
pin_at j p = (j, p)

chip-apart : (j : ℕ) (ns : List ℕ) → IsApart ns → IsApart (map (pin_at j) ns)
chip-apart j [] h = tt
chip-apart j (n ∷ ns) h =
    ((λ a. let found = among-map (pin_at j) (j, n) ns a in h.0 (subst (λ (p : ℕ). Among p ns) (sym (ap (λ (q : At). q.1) found.2)) found.1)), chip-apart j ns h.1)

pins-above : (j : ℕ) (lines : List ChipLine) (q : At) → Among q (pins_from j lines) → j ≤ q.0
pins-above j [] q a = absurd a
pins-above j (l ∷ ls) q a = at (among-split q (map (pin_at j) (ordinary_pins l.kind)) (pins_from (j + 1) ls) a) (pins-above (j + 1) ls q)
  where
    at : Among q (map (pin_at j) (ordinary_pins l.kind)) ⊎ Among q (pins_from (j + 1) ls) → (Among q (pins_from (j + 1) ls) → j + 1 ≤ q.0) → j ≤ q.0
    at (inl h) go = let found = among-map (pin_at j) q (ordinary_pins l.kind) h in let e : q.0 ≡ j = ap (λ (r : At). r.0) found.2 in omega (arith, e)
    at (inr h) go = let low : j + 1 ≤ q.0 = go h in omega (arith, low)

pins-apart : (j : ℕ) (lines : List ChipLine) → IsApart (pins_from j lines)
pins-apart j [] = tt
pins-apart j (l ∷ ls) = apart-append (map (pin_at j) (ordinary_pins l.kind)) (pins_from (j + 1) ls) (chip-apart j (ordinary_pins l.kind) (numbers-apart (ordinary_pins l.kind) (ordinary-distinct l.kind))) (pins-apart (j + 1) ls)
    (λ q a c.
    let found = among-map (pin_at j) q (ordinary_pins l.kind) a in
    let e : q.0 ≡ j = ap (λ (r : At). r.0) found.2 in
    let low : j + 1 ≤ q.0 = pins-above (j + 1) ls q c in
    omega (arith, e, low))

filter-apart : (test : At → Bool) (qs : List At) → IsApart qs → IsApart (filter test qs)
filter-apart test [] h = tt
filter-apart test (q ∷ qs) h = at (test q) (filter-apart test qs h.1)
  where
    at : (t : Bool) → IsApart (filter test qs) → IsApart (cond t (q ∷ filter test qs) (filter test qs))
    at true rest = ((λ a. h.0 (among-filter test q qs a).1), rest)
    at false rest = rest

place-own : (qs : List At) (i : ℕ) (q : At) → IsApart qs → slice_get qs i ≡ Some q → place_of q qs ≡ i
place-own [] i q h e = cc
place-own (r ∷ rs) zero q h e = ap (λ (t : Bool). cond t 0 (place_of q rs + 1)) (ap (λ (s : At). same_at q s) (same_Some r q e) ∙ same-at q)
place-own (r ∷ rs) (suc i) q h e = at (same_at q r) refl (place-own rs i q h.1 e)
  where
    at : (t : Bool) → same_at q r ≡ t → place_of q rs ≡ i → cond t 0 (place_of q rs + 1) ≡ suc i
    at true is rest = absurd (h.0 (subst (λ (s : At). Among s rs) (at-same q r is) (among-get rs i q e)))
    at false is rest = omega (arith, rest)

-- a private net has the place of its pin
pub private-place : (net : Net) (i : ℕ) (q : At) → slice_get (privates net) i ≡ Some q → place_of q (privates net) ≡ i
private-place net i q e = place-own (privates net) i q (filter-apart (λ r. is_none (line_at net.pins r)) (pins_from 0 net.chips) (pins-apart 0 net.chips)) e

-- which has no line
pub private-unlined : (net : Net) (i : ℕ) (q : At) → slice_get (privates net) i ≡ Some q → (is_none (line_at net.pins q) ≡ true) × Among q (pins_from 0 net.chips)
private-unlined net i q e = among-filter (λ r. is_none (line_at net.pins r)) q (pins_from 0 net.chips) (among-get (privates net) i q e)

-- the chip of a pin
pub record HasChip (start : ℕ) (lines : List ChipLine) (q : At) : Type 0 where
  pub place : ℕ
  pub number : q.0 ≡ start + place
  pub line : ChipLine
  pub found : slice_get lines place ≡ Some line
  pub ordinary : Among q.1 (ordinary_pins line.kind)

pub has-chip : (start : ℕ) (lines : List ChipLine) (q : At) → Among q (pins_from start lines) → HasChip start lines q
has-chip start [] q a = absurd a
has-chip start (l ∷ ls) q a = at (among-split q (map (pin_at start) (ordinary_pins l.kind)) (pins_from (start + 1) ls) a) (has-chip (start + 1) ls q)
  where
    at : Among q (map (pin_at start) (ordinary_pins l.kind)) ⊎ Among q (pins_from (start + 1) ls) → (Among q (pins_from (start + 1) ls) → HasChip (start + 1) ls q) → HasChip start (l ∷ ls) q
    at (inl h) go =
        let p = among-map (pin_at start) q (ordinary_pins l.kind) h in
        let first : q.0 ≡ start = ap (λ (r : At). r.0) p.2 in
        record { place = 0; number = omega (arith, first); line = l; found = refl; ordinary = subst (λ (n : ℕ). Among n (ordinary_pins l.kind)) (sym (ap (λ (r : At). r.1) p.2)) p.1 }
    at (inr h) go = let r = go h in let next : q.0 ≡ start + 1 + r.place = r.number in record { place = suc r.place; number = omega (arith, next); line = r.line; found = r.found; ordinary = r.ordinary }
