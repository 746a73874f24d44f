-- A new net that stands for an old one has its kind and pull.
use Rattle.std.proofs.Common.{ℕ, ◌≡◌, ◌+◌, ◌-◌, ◌<◌, ◌≤◌, Bool, true, ◌||◌, List, ◌++◌, map, length, Option, Some, None, refl, sym, ap, ◌∙◌, inl, inr, le-ltb, arith}
use Rattle.std.specs.Prelude.{option_and_then}
use Rattle.std.specs.List.{slice_get}
use Rattle.std.specs.Option.{option_map}
use Rattle.std.proofs.lemmas.List.{length-append}
use Rattle.std.proofs.lemmas.Option.{same_Some}
use Rattle.mig_base.specs.Structure.{has_no_driver}
use Rattle.mig_base.specs.declared.nets.Net.{Net}
use Rattle.mig_base.specs.declared.nets.Pull.{Pull}
use Rattle.mig_base.specs.declared.nets.Pull.TheVariants.{Free}
use Rattle.mig_base.specs.declared.circuit.NetKind.{NetKind}
use Rattle.mig_base.specs.declared.circuit.NetKind.TheVariants.{Inner}
use Rattle.mig_base.specs.declared.circuit.Wire.{Wire}
use Rattle.mig_base.specs.Accepted.{IsAccepted}
use Rattle.mig_base.specs.Boards.{At, kinds_from, kinds_of, privates, units_from}
use Rattle.mig_base.specs.Given.{IsGiven}
use Rattle.mig_base.proofs.Amongs.{among-get}
use Rattle.mig_base.proofs.ListLaws.{item-at}
use Rattle.mig_base.proofs.PlaceLaws.{length-kinds_from}
use Rattle.board.specs.Joined.{Joined, equations_of}
use Rattle.new_board.specs.NewChip.{NewChip, private_from}
use Rattle.new_board.proofs.KeptNumbers.{old_kept}
use Rattle.new_board.proofs.NewWiring.{kept_of}
use Rattle.new_board.proofs.Wiring.{inner_kind, kinds-private}
use Rattle.plans.specs.Placings.{old}
use Rattle.new_circuits.specs.NewNumbers.{new_wiring, old_net}
use Rattle.wired_boards.proofs.UnitPins.{unit-net}
use Rattle.planned_nets.proofs.NewNets.{IsNewNet, new-net}
use Rattle.planned_nets.proofs.PinReasons.{StandsBy, stands-by}
use Rattle.planned_nets.proofs.PrivateNets.{IsPinOf, pin-of}
use Rattle.planned_nets.proofs.SameNet.{unit-of-net}
use Rattle.planned_nets.proofs.Wires.{wire-kind}

-- both nets are there, of one kind and pull
pub record AreMatched (b : Joined) (chips : List NewChip) (m n : ℕ) : Type 0 where
  pub kind : NetKind × Pull
  pub old_kind : slice_get (kinds_of b.net) n ≡ Some kind
  pub new_kind : slice_get (kinds_of (new_wiring b chips)) m ≡ Some kind

-- a constant or a named net is there
named-kind : (net : Net) (n : ℕ) → n < private_from net → (k : NetKind × Pull) × (slice_get (kinds_of net) n ≡ Some k)
named-kind net n low =
    let named : length (kinds_from 0 net.nets) ≡ length net.nets = length-kinds_from 0 net.nets in
    let both : length (kinds_from 0 net.nets ++ map inner_kind (privates net)) ≡ length (kinds_from 0 net.nets) + length (map inner_kind (privates net)) = length-append (kinds_from 0 net.nets) (map inner_kind (privates net)) in
    item-at (kinds_of net) n (omega (arith, low, named, both))

module _ (b : Joined) (chips : List NewChip) (given : IsGiven b.net b.chips) (accepted : IsAccepted (equations_of b)) where
  -- an old net that a new pin stands on is there
  old-there : (q : At) (n : ℕ) (p : IsPinOf b chips q n) → StandsBy (old b) p.chip q.1 n → (w : Wire) × (slice_get (equations_of b).nets n ≡ Some w)
  old-there q n p (inl h) =
      let o = unit-of-net b (slice_get (units_from 0 b.chips) h.unit.unit) n h.net in
      let w = unit-net b.net b.chips given o.0 (among-get (units_from 0 b.chips) h.unit.unit o.0 o.1) in
      (w.0, ap (slice_get (equations_of b).nets) (sym o.2) ∙ w.1)
  old-there q n p (inr (inl c)) = let w = accepted.clocks c.number c.register c.found in (w.0, ap (slice_get (equations_of b).nets) (sym c.clock) ∙ w.1)
  old-there q n p (inr (inr can)) =
      at (slice_get (equations_of b).nets n) refl (ap (λ (t : Bool). t || has_no_driver (slice_get (equations_of b).nets n)) (sym (le-ltb n (private_from b.net) p.high)) ∙ can)
    where
      at : (o : Option Wire) → slice_get (equations_of b).nets n ≡ o → has_no_driver o ≡ true → (w : Wire) × (slice_get (equations_of b).nets n ≡ Some w)
      at None is e = cc
      at (Some w) is e = (w, is)

  -- a private net is inner and not pulled
  private-kind : (n : ℕ) (w : Wire) → private_from b.net ≤ n → slice_get (equations_of b).nets n ≡ Some w → slice_get (kinds_of b.net) n ≡ Some (Inner, Free)
  private-kind n w high on =
      let k = wire-kind b.net (units_from 0 b.chips) n w on in
      let place = n - private_from b.net in
      let kinds = kinds-private b.net place n (omega (arith, high)) in
      kinds ∙ at (slice_get (privates b.net) place) (sym kinds ∙ k.1)
    where
      at : {k : NetKind × Pull} (o : Option At) → option_map inner_kind o ≡ Some k → option_map inner_kind o ≡ Some (Inner, Free)
      at None e = cc
      at (Some q) e = refl

  at : (m n : ℕ) → IsNewNet b chips m → old_net b chips m ≡ Some n → AreMatched b chips m n
  at m n (inl kept) stands =
      let same : old_kept (kept_of (old b) chips) m ≡ n = same_Some (old_kept (kept_of (old b) chips) m) n (sym (ap (option_and_then (λ (o : Option ℕ). o)) kept.stands) ∙ stands) in
      let k = named-kind (new_wiring b chips) m kept.low in
      record { kind = k.0; old_kind = ap (slice_get (kinds_of b.net)) (sym same) ∙ sym kept.kind ∙ k.1; new_kind = k.1 }
  at m n (inr (inl own)) stands =
      let p = pin-of b chips m n own stands in
      let w = old-there own.pin n p (stands-by (old b) p.chip own.pin.1 n p.net) in
      record { kind = (Inner, Free); old_kind = private-kind n w.0 p.high w.1; new_kind = own.kind }
  at m n (inr (inr none)) stands =
      let wrong : None ≡ Some n = sym (ap (option_and_then (λ (o : Option ℕ). o)) none.stands) ∙ stands in
      cc

  pub matched : (m n : ℕ) → old_net b chips m ≡ Some n → AreMatched b chips m n
  matched m n stands = at m n (new-net b chips m) stands
