-- A new net that stands for no old one, or for an absorbed one, is no port and has no driver.
use Rattle.std.proofs.Common.{ℕ, ◌≡◌, ◌⊎◌, Bool, true, false, not, List, [], ◌∷◌, Option, Some, None, refl, sym, ap, ◌∙◌, subst, inl, inr}
use Rattle.std.specs.Prelude.{option_and_then}
use Rattle.std.specs.List.{slice_get}
use Rattle.std.proofs.lemmas.Option.{same_Some}
use Rattle.mig_base.specs.declared.nets.Pull.{Pull}
use Rattle.mig_base.specs.declared.nets.Pull.TheVariants.{Free}
use Rattle.mig_base.specs.declared.circuit.NetKind.{NetKind}
use Rattle.mig_base.specs.declared.circuit.NetKind.TheVariants.{Inner}
use Rattle.mig_base.specs.declared.circuit.Read.TheVariants.{OfNet}
use Rattle.mig_base.specs.declared.circuit.Wire.{Wire}
use Rattle.mig_base.specs.Accepted.{IsAccepted}
use Rattle.mig_base.specs.Among.{Among}
use Rattle.mig_base.specs.Boards.{at_of, net_of, units_from}
use Rattle.mig_base.specs.Given.{IsGiven}
use Rattle.board.specs.Joined.{Joined, equations_of}
use Rattle.new_board.specs.NewChip.{NewChip}
use Rattle.new_board.proofs.KeptNumbers.{old_kept}
use Rattle.new_board.proofs.NewWiring.{kept_of}
use Rattle.new_board.proofs.Wiring.{wire_of}
use Rattle.new_board.proofs.WellMade.{IsFitChip}
use Rattle.plans.specs.Placings.{old}
use Rattle.plans.specs.Forms.{is_absorbed_read}
use Rattle.plans.specs.Fitting.{new_board}
use Rattle.fitting_levels.specs.Wired.{IsWired}
use Rattle.new_circuits.specs.NewNumbers.{is_seen, new_units, new_wiring, numbers_of, old_net, stays}
use Rattle.planned_boards.specs.Planned.{ArePlanned}
use Rattle.wired_boards.proofs.ApartUnits.{given-wired}
use Rattle.planned_nets.specs.PlacedOnce.{ArePlacedOnce}
use Rattle.planned_nets.proofs.Absorbed.{absorbed-inner, absorbed-net}
use Rattle.planned_nets.proofs.NewDrivers.{net-stands, new, old-drives, old-unit, on-chip, there, unit-number}
use Rattle.planned_nets.proofs.NewNets.{IsNewNet, new-net}
use Rattle.planned_nets.proofs.Wires.{driver-wire, kind-wire, wire-driver, wire-kind}

-- an old net that isn't seen is absorbed
pub unseen : (b : Joined) (absorbed : List ℕ) (chips : List NewChip) (m n : ℕ) → is_seen b absorbed chips m ≡ false → old_net b chips m ≡ Some n → is_absorbed_read (equations_of b) absorbed (OfNet n) ≡ true
unseen b absorbed chips m n seen stands = turned (is_absorbed_read (equations_of b) absorbed (OfNet n)) (ap (stays b absorbed) (sym stands) ∙ seen)
  where
    turned : (q : Bool) → not q ≡ false → q ≡ true
    turned true e = refl
    turned false e = cc

module _ (b : Joined) (absorbed : List ℕ) (live : ℕ → Bool) (chips : List NewChip) (given : IsGiven b.net b.chips) (accepted : IsAccepted (equations_of b))
    (fit : (c : NewChip) → Among c chips → IsFitChip (old b) c) (planned : ArePlanned b absorbed live chips) (once : ArePlacedOnce b absorbed chips)
    (m : ℕ) (w : Wire) (on : slice_get (equations_of (new_board b chips)).nets m ≡ Some w) (seen : is_seen b absorbed chips m ≡ false) where
  wired : IsWired (equations_of b)
  wired = given-wired b.net b.chips given

  -- a driver would stand for the absorbed unit
  no-driver : (v : ℕ) → Among v w.drivers → ⊥
  no-driver v a =
      let d = wire-driver (new_wiring b chips) (new_units b chips) m v w on a in
      let n = net_of b.net (at_of (old-unit b absorbed live chips fit planned v d.unit d.found).0) in
      let stands : old_net b chips m ≡ Some n = ap (old_net b chips) (sym d.on) ∙ net-stands b absorbed live chips fit planned v d.unit d.found in
      let u = absorbed-net (equations_of b) absorbed n (unseen b absorbed chips m n seen stands) in
      let among : Among ((numbers_of b chips).unit v) u.1.wire.drivers = driver-wire b.net (units_from 0 b.chips) n ((numbers_of b chips).unit v) u.1.wire u.1.on (old-drives b absorbed live chips fit planned v d.unit d.found once d.can n refl) in
      let x = new b absorbed live chips fit planned v d.unit d.found in
      once.kept x.chip x.unit (there b absorbed live chips fit planned v d.unit d.found) (on-chip b absorbed live chips fit planned v d.unit d.found)
      (listed u.0 u.1.wire.drivers u.1.alone u.1.listed x.unit.unit (subst (λ (k : ℕ). Among k u.1.wire.drivers) (unit-number b absorbed live chips fit planned v d.unit d.found) among))
    where
      listed : (u : ℕ) (ds : List ℕ) → ds ≡ u ∷ [] → Among u absorbed → (k : ℕ) → Among k ds → Among k absorbed
      listed u ds alone a k among = only (subst (Among k) alone among)
        where
          only : (k ≡ u) ⊎ ⊥ → Among k absorbed
          only (inl e) = subst (λ (j : ℕ). Among j absorbed) (sym e) a
          only (inr none) = absurd none

  drivers : (ds : List ℕ) → w.drivers ≡ ds → ds ≡ []
  drivers [] e = refl
  drivers (v ∷ vs) e = absurd (no-driver v (subst (Among v) (sym e) (inl refl)))

  -- its kind
  kind : IsNewNet b chips m → w.kind ≡ Inner
  kind (inl kept) =
      let n = old_kept (kept_of (old b) chips) m in
      let k = wire-kind (new_wiring b chips) (new_units b chips) m w on in
      let u = absorbed-net (equations_of b) absorbed n (unseen b absorbed chips m n seen (ap (option_and_then (λ (o : Option ℕ). o)) kept.stands)) in
      let same : wire_of b.net (units_from 0 b.chips) n k.0 ≡ u.1.wire = same_Some (wire_of b.net (units_from 0 b.chips) n k.0) u.1.wire (sym (kind-wire b.net (units_from 0 b.chips) n k.0 (sym kept.kind ∙ k.1)) ∙ u.1.on) in
      ap (λ (x : Wire). x.kind) k.2 ∙ ap (λ (x : Wire). x.kind) same ∙ absorbed-inner (equations_of b) absorbed planned.absorbable wired n u.0 accepted u.1
  kind (inr (inl own)) =
      let k = wire-kind (new_wiring b chips) (new_units b chips) m w on in
      ap (λ (x : Wire). x.kind) k.2 ∙ ap (λ (x : NetKind × Pull). x.0) (same_Some k.0 (Inner, Free) (sym k.1 ∙ own.kind))
  kind (inr (inr none)) =
      let k = wire-kind (new_wiring b chips) (new_units b chips) m w on in
      let wrong : Some k.0 ≡ None = sym k.1 ∙ none.kind in
      cc

  pub idle : (w.kind ≡ Inner) × (w.drivers ≡ [])
  idle = (kind (new-net b chips m), drivers w.drivers refl)
