-- The line of a new pin on an old net: it has one where that net has a name, else its net is private.
use Rattle.std.proofs.Common.{ℕ, ◌≡◌, ◌+◌, ◌<◌, ◌≤◌, Bool, cond, List, Some, None, sym, ap, ◌∙◌, subst, le-ltb, arith}
use Rattle.std.specs.List.{slice_get}
use Rattle.std.specs.Option.{option_map}
use Rattle.std.proofs.lemmas.Option.{same_Some, slice_get-map}
use Rattle.mig_base.specs.Among.{Among}
use Rattle.mig_base.specs.Boards.{line_at, net_of, place_of, privates}
use Rattle.mig_base.specs.DeviceTables.{ordinary_pins}
use Rattle.board.specs.Joined.{Joined}
use Rattle.new_board.specs.NewChip.{NewChip, private_from}
use Rattle.new_board.specs.InputPins.{pin_net}
use Rattle.new_board.specs.NewFiles.{fitted, new_number, wire_at}
use Rattle.new_board.proofs.KeptNumbers.{old_kept, kept-numbers}
use Rattle.new_board.proofs.NewWiring.{kept_of}
use Rattle.new_board.proofs.Wiring.{net-line, net-private, new-line, wire-none, wire-some}
use Rattle.plans.specs.Placings.{old}
use Rattle.plans.specs.Fitting.{fitted_chips}
use Rattle.new_circuits.specs.NewNumbers.{new_wiring}
use Rattle.new_circuits.proofs.PinNets.{kept-stands, pin-kept}

module _ (b : Joined) (chips : List NewChip) (j : ℕ) (chip : NewChip) (pin n : ℕ) (found : slice_get chips j ≡ Some chip) (ordinary : Among pin (ordinary_pins chip.kind)) (net : pin_net (old b) chip pin ≡ Some n) where
  abbrev kept : List ℕ
  kept = kept_of (old b) chips

  fitted-found : slice_get (fitted_chips b chips) j ≡ Some (fitted (old b) chip)
  fitted-found = slice_get-map (fitted (old b)) chips j ∙ ap (option_map (fitted (old b))) found

  pub named-line : n < private_from b.net → line_at (new_wiring b chips).pins (j, pin) ≡ Some (new_number kept n)
  named-line low = new-line kept 0 j j (fitted_chips b chips) (fitted (old b) chip) pin fitted-found (omega arith)
      ∙ ap (option_map (new_number kept)) (wire-some (old b) (pin_net (old b) chip) (ordinary_pins chip.kind) pin n ordinary net low)

  -- its net keeps a name
  pub named-low : n < private_from b.net → net_of (new_wiring b chips) (j, pin) < private_from (new_wiring b chips)
  named-low low = subst (λ (k : ℕ). k < private_from (new_wiring b chips)) (sym (net-line (new_wiring b chips) (j, pin) (new_number kept n) (named-line low)))
      ((kept-numbers (old b) chips).wired j chip pin n found ordinary net low).below

  -- it is the one that stands for this net
  pub named-same : (m : ℕ) → m < private_from (new_wiring b chips) → old_kept kept m ≡ n → n < private_from b.net → m ≡ net_of (new_wiring b chips) (j, pin)
  named-same m below same low =
      let number = net_of (new_wiring b chips) (j, pin) in
      let here : number < private_from (new_wiring b chips) = named-low low in
      let stands : Some (old_kept kept number) ≡ pin_net (old b) chip pin = same_Some (Some (old_kept kept number)) (pin_net (old b) chip pin) (sym (kept-stands b chips number here) ∙ pin-kept b chips j chip pin found ordinary) in
      (kept-numbers (old b) chips).apart m number below here (same ∙ sym (same_Some (old_kept kept number) n (stands ∙ net)))

  unnamed-line : private_from b.net ≤ n → line_at (new_wiring b chips).pins (j, pin) ≡ None
  unnamed-line high = new-line kept 0 j j (fitted_chips b chips) (fitted (old b) chip) pin fitted-found (omega arith)
      ∙ ap (option_map (new_number kept)) (wire-none (old b) (pin_net (old b) chip) (ordinary_pins chip.kind) pin
      (ap (wire_at (old b) pin) net ∙ ap (λ (q : Bool). cond q (Some (record { pin = pin; net = n })) None) (le-ltb n (private_from b.net) high)))

  -- else it is private
  pub unnamed-net : private_from b.net ≤ n → net_of (new_wiring b chips) (j, pin) ≡ private_from (new_wiring b chips) + place_of (j, pin) (privates (new_wiring b chips))
  unnamed-net high = net-private (new_wiring b chips) (j, pin) (unnamed-line high)
