-- A new net that stands for the net of a placed unit that drives is the net of the unit's new pin.
use Rattle.std.proofs.Common.{ℕ, ◌≡◌, ◌+◌, ◌<◌, ◌≤◌, Bool, true, ◌||◌, List, [], ◌∷◌, length, Option, Some, None, refl, sym, ap, ◌∙◌, subst, inl, inr, le-ltb, eqb, eqb-true, arith}
use Rattle.std.specs.Prelude.{option_and_then}
use Rattle.std.specs.List.{slice_get}
use Rattle.std.proofs.lemmas.Option.{same_Some}
use Rattle.mig_base.specs.Structure.{has_no_driver}
use Rattle.mig_base.specs.declared.circuit.Wire.{Wire}
use Rattle.mig_base.specs.Accepted.{IsAccepted, is_fixed}
use Rattle.mig_base.specs.Among.{Among}
use Rattle.mig_base.specs.Boards.{At, ChipUnit, at_of, net_of, place_of, privates, units_from}
use Rattle.mig_base.specs.DeviceTables.{ordinary_pins}
use Rattle.mig_base.specs.Given.{IsGiven}
use Rattle.mig_base.proofs.Amongs.{among-get}
use Rattle.board.specs.Joined.{Joined, equations_of}
use Rattle.new_board.specs.declared.types.PlacedUnit.{PlacedUnit}
use Rattle.new_board.specs.NewChip.{NewChip, can_stand, private_from, unit_net_of}
use Rattle.new_board.specs.InputPins.{pin_net}
use Rattle.new_board.proofs.KeptNumbers.{old_kept}
use Rattle.new_board.proofs.NewWiring.{kept_of}
use Rattle.new_board.proofs.WellMade.{on-unit}
use Rattle.new_board.proofs.Wiring.{private-own}
use Rattle.plans.specs.Placings.{old}
use Rattle.new_circuits.specs.NewNumbers.{new_wiring, old_net}
use Rattle.wired_boards.proofs.ApartUnits.{given-apart}
use Rattle.wired_boards.proofs.UnitPins.{lines-fit, unit-pin}
use Rattle.planned_nets.specs.PlacedOnce.{ArePlacedOnce}
use Rattle.planned_nets.proofs.NewNets.{IsNewNet, new-net}
use Rattle.planned_nets.proofs.PinLines.{named-same, unnamed-net}
use Rattle.planned_nets.proofs.PinReasons.{IsClock, StandsBy, stands-by}
use Rattle.planned_nets.proofs.PinsApart.{private-place}
use Rattle.planned_nets.proofs.PrivateNets.{IsPinOf, pin-of}
use Rattle.planned_nets.proofs.Wires.{IsDriver}

-- the unit whose pin stands on a net
pub unit-of-net : (b : Joined) (o : Option ChipUnit) (n : ℕ) → unit_net_of (old b) o ≡ Some n → (x : ChipUnit) × (o ≡ Some x) × (net_of b.net (at_of x) ≡ n)
unit-of-net b None n e = cc
unit-of-net b (Some x) n e = (x, refl, same_Some (net_of b.net (at_of x)) n e)

-- a list with an item isn't empty
driven : (u : ℕ) (ds : List ℕ) → Among u ds → eqb (length ds) 0 ≡ true → ⊥
driven u [] a e = absurd a
driven u (y ∷ ys) a e = let none : length (y ∷ ys) ≡ 0 = eqb-true (length (y ∷ ys)) 0 e in omega (arith, none)

module _ (b : Joined) (absorbed : List ℕ) (chips : List NewChip) (given : IsGiven b.net b.chips) (accepted : IsAccepted (equations_of b)) (once : ArePlacedOnce b absorbed chips)
    (j : ℕ) (chip : NewChip) (x : PlacedUnit) (found : slice_get chips j ≡ Some chip) (placed : Among x chip.units) (ordinary : Among x.pin (ordinary_pins chip.kind))
    (n : ℕ) (net : pin_net (old b) chip x.pin ≡ Some n) (w : Wire) (on : slice_get (equations_of b).nets n ≡ Some w) (drives : Among x.unit w.drivers)
    (d : IsDriver b.net (units_from 0 b.chips) n x.unit) where
  -- a net with a driver is none that an input pin can stand on, unless it has a name
  no-clock : IsClock (old b) n → ⊥
  no-clock c =
      let k = accepted.clocks c.number c.register c.found in
      let same : k.0 ≡ w = same_Some k.0 w (sym k.1 ∙ ap (slice_get (equations_of b).nets) c.clock ∙ on) in
      let none : w.drivers ≡ [] = accepted.driven n w on (subst (λ (v : Wire). is_fixed v.kind ≡ true) same k.2) in
      absurd (subst (Among x.unit) none drives)

  no-free : private_from b.net ≤ n → can_stand (old b) n ≡ true → ⊥
  no-free high can =
      let free : has_no_driver (slice_get (equations_of b).nets n) ≡ true = ap (λ (q : Bool). q || has_no_driver (slice_get (equations_of b).nets n)) (sym (le-ltb n (private_from b.net) high)) ∙ can in
      driven x.unit w.drivers drives (ap has_no_driver (sym on) ∙ free)

  -- the pin of the private net has that unit
  unit-same : private_from b.net ≤ n → (y : PlacedUnit) (o : ChipUnit) → slice_get (units_from 0 b.chips) y.unit ≡ Some o → net_of b.net (at_of o) ≡ n → y.unit ≡ x.unit
  unit-same high y o is e =
      let there = unit-pin b.net b.chips given d.unit (among-get (units_from 0 b.chips) x.unit d.unit d.found) in
      let own = unit-pin b.net b.chips given o (among-get (units_from 0 b.chips) y.unit o is) in
      let low : private_from b.net ≤ net_of b.net (at_of d.unit) = subst (λ (k : ℕ). private_from b.net ≤ k) (sym d.on) high in
      given-apart b.net b.chips given y.unit x.unit o d.unit is d.found
      (private-own b.net (at_of d.unit) (at_of o) (lines-fit b.net b.chips given) there own low (e ∙ sym d.on))

  pin-same : (q : At) (p : IsPinOf b chips q n) → StandsBy (old b) p.chip q.1 n → q ≡ (j, x.pin)
  pin-same q p (inr (inl clock)) = absurd (no-clock clock)
  pin-same q p (inr (inr can)) = absurd (no-free p.high can)
  pin-same q p (inl h) =
      let o = unit-of-net b (slice_get (units_from 0 b.chips) h.unit.unit) n h.net in
      let y = on-unit p.chip.units q.1 h.unit h.on in
      let same = once.once q.0 j p.chip chip h.unit x p.found found y.0 placed (unit-same p.high h.unit o.0 o.1 o.2) in
      let pin : q.1 ≡ x.pin = sym y.1 ∙ same.1 in
      λ i. (same.0 i, pin i)

  at : (m : ℕ) → IsNewNet b chips m → old_net b chips m ≡ Some n → m ≡ net_of (new_wiring b chips) (j, x.pin)
  at m (inl kept) stands =
      let same : old_kept (kept_of (old b) chips) m ≡ n = same_Some (old_kept (kept_of (old b) chips) m) n (sym (ap (option_and_then (λ (o : Option ℕ). o)) kept.stands) ∙ stands) in
      named-same b chips j chip x.pin n found ordinary net m kept.low same (subst (λ (k : ℕ). k < private_from b.net) same kept.within)
  at m (inr (inl own)) stands =
      let p = pin-of b chips m n own stands in
      let same : own.pin ≡ (j, x.pin) = pin-same own.pin p (stands-by (old b) p.chip own.pin.1 n p.net) in
      let place : place_of (j, x.pin) (privates (new_wiring b chips)) ≡ own.place = ap (λ (q : At). place_of q (privates (new_wiring b chips))) (sym same) ∙ private-place (new_wiring b chips) own.place own.pin own.found in
      own.number ∙ sym (unnamed-net b chips j chip x.pin n found ordinary net p.high ∙ ap (λ (k : ℕ). private_from (new_wiring b chips) + k) place)
  at m (inr (inr none)) stands =
      let wrong : None ≡ Some n = sym (ap (option_and_then (λ (o : Option ℕ). o)) none.stands) ∙ stands in
      cc

  pub same-net : (m : ℕ) → old_net b chips m ≡ Some n → m ≡ net_of (new_wiring b chips) (j, x.pin)
  same-net m stands = at m (new-net b chips m) stands
