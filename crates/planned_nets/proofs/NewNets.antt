-- The nets of the new board: constants and kept nets, and the private nets of pins.
use Rattle.std.proofs.Common.{ℕ, ◌≡◌, ◌⊎◌, ◌+◌, ◌-◌, ◌<◌, ◌≤◌, List, map, length, suc, Option, Some, None, refl, ap, ◌∙◌, inl, inr, arith}
use Rattle.std.specs.List.{slice_get}
use Rattle.std.specs.Option.{option_map}
use Rattle.std.proofs.lemmas.Bool.{cases_lt}
use Rattle.std.proofs.lemmas.List.{length-map}
use Rattle.std.proofs.lemmas.Option.{slice_get-map}
use Rattle.mig_base.specs.declared.nets.Pull.TheVariants.{Free}
use Rattle.mig_base.specs.declared.circuit.NetKind.TheVariants.{Inner}
use Rattle.mig_base.specs.Boards.{At, kinds_of, privates}
use Rattle.board.specs.Joined.{Joined}
use Rattle.new_board.specs.NewChip.{NewChip, private_from}
use Rattle.new_board.proofs.KeptNumbers.{old_kept, nets-length, kept-numbers}
use Rattle.new_board.proofs.NewWiring.{kept_of}
use Rattle.new_board.proofs.Wiring.{get-right, inner_kind, kinds-private}
use Rattle.plans.specs.Placings.{old}
use Rattle.new_circuits.specs.NewNumbers.{new_wiring, pin_net_at, old_nets}
use Rattle.new_circuits.proofs.PinNets.{kept-stands}

-- a constant or a kept net
pub record IsKeptNet (b : Joined) (chips : List NewChip) (m : ℕ) : Type 0 where
  pub low : m < private_from (new_wiring b chips)
  pub stands : slice_get (old_nets b chips) m ≡ Some (Some (old_kept (kept_of (old b) chips) m))
  pub within : old_kept (kept_of (old b) chips) m < private_from b.net
  pub kind : slice_get (kinds_of (new_wiring b chips)) m ≡ slice_get (kinds_of b.net) (old_kept (kept_of (old b) chips) m)

-- the private net of a pin
pub record IsPrivateNet (b : Joined) (chips : List NewChip) (m : ℕ) : Type 0 where
  pub place : ℕ
  pub pin : At
  pub number : m ≡ private_from (new_wiring b chips) + place
  pub found : slice_get (privates (new_wiring b chips)) place ≡ Some pin
  pub stands : slice_get (old_nets b chips) m ≡ Some (pin_net_at b chips pin)
  pub kind : slice_get (kinds_of (new_wiring b chips)) m ≡ Some (Inner, Free)

-- none
pub record IsNoNet (b : Joined) (chips : List NewChip) (m : ℕ) : Type 0 where
  pub stands : slice_get (old_nets b chips) m ≡ None
  pub kind : slice_get (kinds_of (new_wiring b chips)) m ≡ None

abbrev pub IsNewNet : Joined → List NewChip → ℕ → Type 0
IsNewNet b chips m = IsKeptNet b chips m ⊎ (IsPrivateNet b chips m ⊎ IsNoNet b chips m)

module _ (b : Joined) (chips : List NewChip) (m : ℕ) (high : private_from (new_wiring b chips) ≤ m) where
  abbrev place : ℕ
  place = m - private_from (new_wiring b chips)

  number : m ≡ private_from (new_wiring b chips) + place
  number = omega (arith, high)

  stands-at : slice_get (old_nets b chips) m ≡ option_map (pin_net_at b chips) (slice_get (privates (new_wiring b chips)) place)
  stands-at =
      let kept : List ℕ = kept_of (old b) chips in
      let long : length (map (λ (n : ℕ). Some n) kept) ≡ length kept = length-map kept (λ (n : ℕ). Some n) in
      let nets : length (new_wiring b chips).nets ≡ length kept = nets-length (old b) chips in
      let next : m ≡ suc (suc (length (new_wiring b chips).nets + place)) = omega (arith, number) in
      ap (slice_get (old_nets b chips)) next
      ∙ get-right (map (λ (n : ℕ). Some n) kept) (map (pin_net_at b chips) (privates (new_wiring b chips))) place (length (new_wiring b chips).nets + place) (omega (arith, long, nets))
      ∙ slice_get-map (pin_net_at b chips) (privates (new_wiring b chips)) place

  kind-at : slice_get (kinds_of (new_wiring b chips)) m ≡ option_map inner_kind (slice_get (privates (new_wiring b chips)) place)
  kind-at = kinds-private (new_wiring b chips) place m number

  past : (o : Option At) → slice_get (privates (new_wiring b chips)) place ≡ o → IsPrivateNet b chips m ⊎ IsNoNet b chips m
  past None e = inr (record { stands = stands-at ∙ ap (option_map (pin_net_at b chips)) e; kind = kind-at ∙ ap (option_map inner_kind) e })
  past (Some q) e = inl (record {
    place = place;
    pin = q;
    number = number;
    found = e;
    stands = stands-at ∙ ap (option_map (pin_net_at b chips)) e;
    kind = kind-at ∙ ap (option_map inner_kind) e;
  })

pub new-net : (b : Joined) (chips : List NewChip) (m : ℕ) → IsNewNet b chips m
new-net b chips m = at (cases_lt m (private_from (new_wiring b chips)))
  where
    at : (m < private_from (new_wiring b chips)) ⊎ (private_from (new_wiring b chips) ≤ m) → IsNewNet b chips m
    at (inl low) = inl (record { low = low; stands = kept-stands b chips m low; within = (kept-numbers (old b) chips).within m low; kind = (kept-numbers (old b) chips).kinds m low })
    at (inr high) = inr (past b chips m high (slice_get (privates (new_wiring b chips)) (m - private_from (new_wiring b chips))) refl)
