-- The unit of each register of a board.
use Rattle.std.proofs.Common.{ℕ, zero, suc, ◌≡◌, ◌<◌, ◌+◌, Bool, true, false, cond, List, [], ◌∷◌, ◌++◌, map, length, Option, Some, None, refl, sym, ap, ◌∙◌, subst, arith}
use Rattle.std.specs.List.{filter, slice_get}
use Rattle.std.specs.Option.{option_map}
use Rattle.std.proofs.lemmas.List.{length-map}
use Rattle.std.proofs.lemmas.Option.{same_Some, slice_get-map}
use Rattle.mig_base.specs.declared.circuit.Gives.TheVariants.{Sum, Visible}
use Rattle.mig_base.specs.Among.{Among}
use Rattle.mig_base.specs.Boards.{At, ChipUnit, at_of, driver_of, is_registered, literals_of, place_of, places_from, register_of, registers_of, units_from}
use Rattle.mig_base.specs.Given.{IsGiven}
use Rattle.mig_base.proofs.Amongs.{among-filter, among-get, map-among}
use Rattle.mig_base.proofs.ListLaws.{item-at}
use Rattle.structure.specs.Live.{GivesQ, HasRegister}
use Rattle.board.specs.Joined.{Joined, equations_of}
use Rattle.new_board.specs.NewFiles.{number_in}
use Rattle.new_board.proofs.KeptNets.{get-number, places-different}
use Rattle.new_board.proofs.Wiring.{place-get}
use Rattle.new_circuits.specs.NewNumbers.{or_zero}
use Rattle.wired_boards.proofs.ApartUnits.{given-wired}

-- an item that passes, by its place
pub place-item : {T : Type 0} (test : T → Bool) (start : ℕ) (xs : List T) (k : ℕ) (x : T) → slice_get (filter test xs) k ≡ Some x →
    (p : ℕ) × (slice_get (places_from test start xs) k ≡ Some (start + p)) × (slice_get xs p ≡ Some x)
place-item test start [] k x e = cc
place-item {T} test start (y ∷ ys) k x e = at (test y) k e (place-item test (start + 1) ys)
  where
    at : (q : Bool) (k : ℕ) → slice_get (cond q (y ∷ filter test ys) (filter test ys)) k ≡ Some x →
        ((i : ℕ) (z : T) → slice_get (filter test ys) i ≡ Some z → (p : ℕ) × (slice_get (places_from test (start + 1) ys) i ≡ Some (start + 1 + p)) × (slice_get ys p ≡ Some z)) →
        (p : ℕ) × (slice_get (cond q (start ∷ []) [] ++ places_from test (start + 1) ys) k ≡ Some (start + p)) × (slice_get (y ∷ ys) p ≡ Some x)
    at true zero e rest = let n : start ≡ start + 0 = omega arith in (0, ap (λ (i : ℕ). Some i) n, e)
    at true (suc k) e rest = let r = rest k x e in let n : start + 1 + r.0 ≡ start + suc r.0 = omega arith in (suc r.0, r.1 ∙ ap (λ (i : ℕ). Some i) n, r.2)
    at false k e rest = let r = rest k x e in let n : start + 1 + r.0 ≡ start + suc r.0 = omega arith in (suc r.0, r.1 ∙ ap (λ (i : ℕ). Some i) n, r.2)

module _ (b : Joined) (given : IsGiven b.net b.chips) where
  abbrev units : List ChipUnit
  units = units_from 0 b.chips

  abbrev pins : List At
  pins = map at_of (registers_of units)

  abbrev places : List ℕ
  places = places_from is_registered 0 units

  abbrev pub owner : ℕ → ℕ
  owner k = or_zero (slice_get places k)

  place-at : (k : ℕ) (x : ChipUnit) → slice_get (registers_of units) k ≡ Some x → (p : ℕ) × (slice_get places k ≡ Some p) × (slice_get units p ≡ Some x)
  place-at k x e = let r = place-item is_registered 0 units k x e in let n : 0 + r.0 ≡ r.0 = omega arith in (r.0, r.1 ∙ ap (λ (i : ℕ). Some i) n, r.2)

  -- a registered unit has the register of its pin
  has-register : (p : ℕ) (x : ChipUnit) → slice_get units p ≡ Some x → is_registered x ≡ true → HasRegister (place_of (at_of x) pins) (slice_get (equations_of b).units p)
  has-register p x e r =
      subst (HasRegister (place_of (at_of x) pins)) (sym (slice_get-map (driver_of b.net units) units p ∙ ap (option_map (driver_of b.net units)) e))
      (subst (λ (q : Bool). GivesQ (place_of (at_of x) pins) (cond q (Visible (place_of (at_of x) pins)) (Sum (map (literals_of b.net units x.chip) x.cell.terms)))) (sym r) refl)

  -- the units of one register stand at one place
  same-place : (k j p q : ℕ) (x y : ChipUnit) → slice_get units p ≡ Some x → slice_get units q ≡ Some y → is_registered x ≡ true → is_registered y ≡ true → at_of x ≡ at_of y →
      slice_get places k ≡ Some p → slice_get places j ≡ Some q → k ≡ j
  same-place k j p q x y ep eq rx ry same ek ej =
      let here = has-register p x ep rx in
      let there = subst (λ (i : At). HasRegister (place_of i pins) (slice_get (equations_of b).units q)) (sym same) (has-register q y eq ry) in
      let one : p ≡ q = (given-wired b.net b.chips given).one_unit (place_of (at_of x) pins) p q here there in
      let apart = places-different is_registered 0 units in
      let first : number_in places p ≡ k = get-number places k p apart ek in
      let second : number_in places q ≡ j = get-number places j q apart ej in
      sym first ∙ ap (number_in places) one ∙ second

  pub owner-has : (k : ℕ) → k < length (equations_of b).registers → HasRegister k (slice_get (equations_of b).units (owner k))
  owner-has k low =
      let long : length (equations_of b).registers ≡ length (registers_of units) = length-map (registers_of units) (register_of b.net units) in
      let x = item-at (registers_of units) k (omega (arith, long, low)) in
      let here = place-at k x.0 x.1 in
      let passes = among-filter is_registered x.0 units (among-get (registers_of units) k x.0 x.1) in
      let among : Among (at_of x.0) pins = map-among at_of x.0 (registers_of units) (among-get (registers_of units) k x.0 x.1) in
      let j = place_of (at_of x.0) pins in
      let pin : slice_get pins j ≡ Some (at_of x.0) = place-get (at_of x.0) pins among in
      let y = at j (slice_get (registers_of units) j) refl (sym (slice_get-map at_of (registers_of units) j) ∙ pin) in
      let there = place-at j y.0 y.1 in
      let other = among-filter is_registered y.0 units (among-get (registers_of units) j y.0 y.1) in
      let same : k ≡ j = same-place k j here.0 there.0 x.0 y.0 here.2 there.2 passes.0 other.0 (sym y.2) here.1 there.1 in
      subst (λ (i : ℕ). HasRegister i (slice_get (equations_of b).units (owner k))) (sym same)
      (subst (λ (p : ℕ). HasRegister j (slice_get (equations_of b).units p)) (sym (ap or_zero here.1)) (has-register here.0 x.0 here.2 passes.0))
    where
      at : {q : At} (j : ℕ) (o : Option ChipUnit) → slice_get (registers_of units) j ≡ o → option_map at_of o ≡ Some q → (y : ChipUnit) × (slice_get (registers_of units) j ≡ Some y) × (at_of y ≡ q)
      at j None is e = cc
      at {q} j (Some y) is e = (y, is, same_Some (at_of y) q e)
