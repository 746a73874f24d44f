-- The net of a new pin stands for the old net that the pin stands on.
use Rattle.std.proofs.Common.{ℕ, zero, suc, ◌≡◌, ◌⊎◌, ◌+◌, ◌-◌, ◌<◌, ◌≤◌, Bool, true, false, cond, List, [], ◌∷◌, ◌++◌, map, length, ltb, lt-ltb, le-ltb, Option, Some, None, refl, sym, ap, ◌∙◌, subst, inl, inr, arith}
use Rattle.std.specs.Prelude.{option_and_then}
use Rattle.std.specs.List.{slice_get}
use Rattle.std.specs.Option.{option_map}
use Rattle.std.proofs.lemmas.Bool.{cases_lt}
use Rattle.std.proofs.lemmas.Option.{same_Some, slice_get-map}
use Rattle.mig_base.specs.declared.nets.Net.{Net}
use Rattle.mig_base.specs.declared.nets.ChipLine.{ChipLine}
use Rattle.mig_base.specs.Among.{Among}
use Rattle.mig_base.specs.DeviceTables.{ordinary_pins}
use Rattle.mig_base.specs.Boards.{At, place_of, line_at, pins_from, privates, net_of}
use Rattle.mig_base.proofs.ListLaws.{item-at}
use Rattle.board.specs.Joined.{Joined}
use Rattle.new_board.specs.declared.types.FittedChip.{FittedChip}
use Rattle.new_board.specs.declared.types.PinNet.{PinNet}
use Rattle.new_board.specs.NewChip.{OldBoard, NewChip, private_from}
use Rattle.new_board.specs.InputPins.{pin_net}
use Rattle.new_board.specs.NewFiles.{fitted, number_in, wire_at, new_wires, new_number, new_chip_line}
use Rattle.new_board.proofs.KeptNumbers.{old_kept, nets-length, kept-numbers}
use Rattle.new_board.proofs.NewWiring.{kept_of}
use Rattle.new_board.proofs.Wiring.{get-left, get-right, place-get, net-line, net-private, among-privates, wire_on, new-line, wire-some, wire-none, among-pins}
use Rattle.plans.specs.Placings.{old}
use Rattle.plans.specs.Fitting.{fitted_chips}
use Rattle.new_circuits.specs.NewNumbers.{new_wiring, pin_net_at, old_nets}

map-length : {T S : Type 0} (f : T → S) (xs : List T) → length (map f xs) ≡ length xs
map-length f [] = refl
map-length f (x ∷ xs) = ap suc (map-length f xs)

abbrev or_kept : Option ℕ → ℕ
or_kept None = 0
or_kept (Some n) = n

kept-at : (kept : List ℕ) (i n : ℕ) → slice_get kept i ≡ Some n → old_kept kept (suc (suc i)) ≡ n
kept-at kept i n e =
    let high : 2 ≤ suc (suc i) = omega arith in
    let back : suc (suc i) - 2 ≡ i = omega arith in
    ap (λ (q : Bool). cond q (suc (suc i)) (or_kept (slice_get kept (suc (suc i) - 2)))) (le-ltb (suc (suc i)) 2 high)
    ∙ ap (λ (k : ℕ). or_kept (slice_get kept k)) back ∙ ap or_kept e

module _ (b : Joined) (chips : List NewChip) where
  abbrev kept : List ℕ
  kept = kept_of (old b) chips

  abbrev wiring : Net
  wiring = new_wiring b chips

  kept-long : length wiring.nets ≡ length kept
  kept-long = nets-length (old b) chips

  -- a constant or a kept net stands for its old one
  pub kept-stands : (m : ℕ) → m < private_from wiring → slice_get (old_nets b chips) m ≡ Some (Some (old_kept kept m))
  kept-stands zero h = refl
  kept-stands (suc zero) h = refl
  kept-stands (suc (suc i)) h =
      let low : i < length kept = omega (arith, kept-long, h) in
      let n = item-at kept i low in
      let long : length (map (λ (n : ℕ). Some n) kept) ≡ length kept = map-length (λ (n : ℕ). Some n) kept in
      get-left (map (λ (n : ℕ). Some n) kept) (map (pin_net_at b chips) (privates wiring)) i (omega (arith, long, low))
      ∙ slice_get-map (λ (n : ℕ). Some n) kept i
      ∙ ap (option_map (λ (n : ℕ). Some n)) n.1
      ∙ ap (λ (k : ℕ). Some (Some k)) (sym (kept-at kept i n.0 n.1))

  -- a private net stands for the net that its pin stands on
  pub private-stands : (q : At) → Among q (privates wiring) → slice_get (old_nets b chips) (private_from wiring + place_of q (privates wiring)) ≡ Some (pin_net_at b chips q)
  private-stands q a =
      let long : length (map (λ (n : ℕ). Some n) kept) ≡ length kept = map-length (λ (n : ℕ). Some n) kept in
      let number : private_from wiring + place_of q (privates wiring) ≡ suc (suc (length wiring.nets + place_of q (privates wiring))) = omega arith in
      ap (slice_get (old_nets b chips)) number
      ∙ get-right (map (λ (n : ℕ). Some n) kept) (map (pin_net_at b chips) (privates wiring)) (place_of q (privates wiring)) (length wiring.nets + place_of q (privates wiring)) (omega (arith, long, kept-long))
      ∙ slice_get-map (pin_net_at b chips) (privates wiring) (place_of q (privates wiring))
      ∙ ap (option_map (pin_net_at b chips)) (place-get q (privates wiring) a)

  module _ (j : ℕ) (chip : NewChip) (pin : ℕ) (found : slice_get chips j ≡ Some chip) (ordinary : Among pin (ordinary_pins chip.kind)) where
    fitted-found : slice_get (fitted_chips b chips) j ≡ Some (fitted (old b) chip)
    fitted-found = slice_get-map (fitted (old b)) chips j ∙ ap (option_map (fitted (old b))) found

    there : Among (j, pin) (pins_from 0 wiring.chips)
    there = among-pins 0 j j wiring.chips (new_chip_line (fitted (old b) chip)) pin
        (slice_get-map new_chip_line (fitted_chips b chips) j ∙ ap (option_map new_chip_line) fitted-found) (omega arith) ordinary

    line : line_at wiring.pins (j, pin) ≡ option_map (new_number kept) (wire_on (new_wires (old b) chip) pin)
    line = new-line kept 0 j j (fitted_chips b chips) (fitted (old b) chip) pin fitted-found (omega arith)

    -- a pin without line
    unwired : wire_at (old b) pin (pin_net (old b) chip pin) ≡ None → slice_get (old_nets b chips) (net_of wiring (j, pin)) ≡ Some (pin_net (old b) chip pin)
    unwired e =
        let none : line_at wiring.pins (j, pin) ≡ None = line ∙ ap (option_map (new_number kept)) (wire-none (old b) (pin_net (old b) chip) (ordinary_pins chip.kind) pin e) in
        ap (slice_get (old_nets b chips)) (net-private wiring (j, pin) none)
        ∙ private-stands (j, pin) (among-privates wiring (j, pin) there none)
        ∙ ap (λ (o : Option NewChip). Some (option_and_then (λ (c : NewChip). pin_net (old b) c pin) o)) found

    -- a pin with one
    wired : (n : ℕ) → pin_net (old b) chip pin ≡ Some n → n < private_from b.net → slice_get (old_nets b chips) (net_of wiring (j, pin)) ≡ Some (Some n)
    wired n e low =
        let on : line_at wiring.pins (j, pin) ≡ Some (new_number kept n) = line ∙ ap (option_map (new_number kept)) (wire-some (old b) (pin_net (old b) chip) (ordinary_pins chip.kind) pin n ordinary e low) in
        let number = (kept-numbers (old b) chips).wired j chip pin n found ordinary e low in
        ap (slice_get (old_nets b chips)) (net-line wiring (j, pin) (new_number kept n) on)
        ∙ kept-stands (new_number kept n) number.below
        ∙ ap (λ (k : ℕ). Some (Some k)) number.back

    pub kept-pin : slice_get (old_nets b chips) (net_of wiring (j, pin)) ≡ Some (pin_net (old b) chip pin)
    kept-pin = at (pin_net (old b) chip pin) refl
      where
        at : (o : Option ℕ) → pin_net (old b) chip pin ≡ o → slice_get (old_nets b chips) (net_of wiring (j, pin)) ≡ Some (pin_net (old b) chip pin)
        at None e = unwired (ap (wire_at (old b) pin) e)
        at (Some n) e = by (cases_lt n (private_from b.net))
          where
            by : (n < private_from b.net) ⊎ (private_from b.net ≤ n) → slice_get (old_nets b chips) (net_of wiring (j, pin)) ≡ Some (pin_net (old b) chip pin)
            by (inl low) = wired n e low ∙ ap (λ (o : Option ℕ). Some o) (sym e)
            by (inr high) = unwired (ap (wire_at (old b) pin) e ∙ ap (λ (q : Bool). cond q (Some (record { pin = pin; net = n })) None) (le-ltb n (private_from b.net) high))

    abbrev number : ℕ
    number = net_of wiring (j, pin)

    -- a pin on GND or VCC
    constant : (n : ℕ) → pin_net (old b) chip pin ≡ Some n → n < 2 → number ≡ n
    constant n e low =
        let on : line_at wiring.pins (j, pin) ≡ Some (new_number kept n) = line ∙ ap (option_map (new_number kept)) (wire-some (old b) (pin_net (old b) chip) (ordinary_pins chip.kind) pin n ordinary e (omega (arith, low))) in
        net-line wiring (j, pin) (new_number kept n) on ∙ ap (λ (q : Bool). cond q n (2 + number_in kept n)) (lt-ltb n 2 low)

    -- a pin on another net
    other : (n : ℕ) → pin_net (old b) chip pin ≡ Some n → 2 ≤ n → 2 ≤ number
    other n e high = at (cases_lt number 2)
      where
        at : (number < 2) ⊎ (2 ≤ number) → 2 ≤ number
        at (inr h) = h
        at (inl h) =
            let stands : Some (old_kept kept number) ≡ pin_net (old b) chip pin = same_Some (Some (old_kept kept number)) (pin_net (old b) chip pin) (sym (kept-stands number (omega (arith, h))) ∙ kept-pin) in
            let same : old_kept kept number ≡ n = same_Some (old_kept kept number) n (stands ∙ e) in
            let itself : old_kept kept number ≡ number = (kept-numbers (old b) chips).constants number h in
            absurd (omega (arith, same, itself, h, high))

    pub constants-kept : (n : ℕ) → pin_net (old b) chip pin ≡ Some n → (n < 2 → number ≡ n) × (2 ≤ n → 2 ≤ number)
    constants-kept n e = (constant n e, other n e)

pub pin-kept : (b : Joined) (chips : List NewChip) (j : ℕ) (chip : NewChip) (pin : ℕ) → slice_get chips j ≡ Some chip → Among pin (ordinary_pins chip.kind) →
    slice_get (old_nets b chips) (net_of (new_wiring b chips) (j, pin)) ≡ Some (pin_net (old b) chip pin)
pin-kept b chips j chip pin found ordinary = kept-pin b chips j chip pin found ordinary
