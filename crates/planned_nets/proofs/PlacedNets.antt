-- A new net that stands for an old one is placed: kind, pull and drivers.
use Rattle.std.proofs.Common.{ℕ, ◌≡◌, Bool, true, List, Option, Some, None, refl, sym, ap, ◌∙◌}
use Rattle.std.specs.List.{slice_get}
use Rattle.std.proofs.lemmas.Option.{same_Some}
use Rattle.mig_base.specs.declared.circuit.Driver.{Driver}
use Rattle.mig_base.specs.declared.circuit.Wire.{Wire}
use Rattle.mig_base.specs.Accepted.{IsAccepted}
use Rattle.mig_base.specs.Among.{Among}
use Rattle.mig_base.specs.Boards.{at_of, net_of, units_from}
use Rattle.mig_base.specs.Given.{IsGiven}
use Rattle.board.specs.Joined.{Joined, equations_of}
use Rattle.new_board.specs.NewChip.{NewChip}
use Rattle.new_board.proofs.WellMade.{IsFitChip}
use Rattle.new_board.proofs.Wiring.{wire_of}
use Rattle.plans.specs.Placings.{old}
use Rattle.plans.specs.Fitting.{new_board}
use Rattle.placed_boards.specs.Places.{IsPlacedNet, IsPlacedUnit}
use Rattle.new_circuits.specs.NewNumbers.{is_seen, new_units, new_wiring, numbers_of, old_net, or_zero, stays}
use Rattle.planned_boards.specs.Planned.{ArePlanned}
use Rattle.planned_nets.specs.PlacedOnce.{ArePlacedOnce}
use Rattle.planned_nets.proofs.MatchedNets.{AreMatched, matched}
use Rattle.planned_nets.proofs.NewDrivers.{net-stands, old-drives, old-unit}
use Rattle.planned_nets.proofs.PlacedDrivers.{every}
use Rattle.planned_nets.proofs.Wires.{driver-wire, kind-wire, wire-driver}

-- what is seen stands for a net
seen-net : (b : Joined) (absorbed : List ℕ) (chips : List NewChip) (m : ℕ) → is_seen b absorbed chips m ≡ true → (n : ℕ) × (old_net b chips m ≡ Some n)
seen-net b absorbed chips m e = at (old_net b chips m) refl e
  where
    at : (o : Option ℕ) → old_net b chips m ≡ o → stays b absorbed o ≡ true → (n : ℕ) × (old_net b chips m ≡ Some n)
    at None is h = cc
    at (Some n) is h = (n, is)

module _ (b : Joined) (absorbed : List ℕ) (live : ℕ → Bool) (chips : List NewChip) (given : IsGiven b.net b.chips) (accepted : IsAccepted (equations_of b))
    (fit : (c : NewChip) → Among c chips → IsFitChip (old b) c) (planned : ArePlanned b absorbed live chips) (once : ArePlacedOnce b absorbed chips)
    (units : (v : ℕ) (d : Driver) → slice_get (equations_of (new_board b chips)).units v ≡ Some d → IsPlacedUnit (equations_of b) absorbed (numbers_of b chips) v d)
    (m : ℕ) (seen : is_seen b absorbed chips m ≡ true) where
  abbrev n : ℕ
  n = (seen-net b absorbed chips m seen).0

  stands : old_net b chips m ≡ Some n
  stands = (seen-net b absorbed chips m seen).1

  both : AreMatched b chips m n
  both = matched b chips given accepted m n stands

  abbrev wire : Wire
  wire = wire_of b.net (units_from 0 b.chips) n both.kind

  abbrev new_wire : Wire
  new_wire = wire_of (new_wiring b chips) (new_units b chips) m both.kind

  on : slice_get (equations_of b).nets n ≡ Some wire
  on = kind-wire b.net (units_from 0 b.chips) n both.kind both.old_kind

  new-on : slice_get (equations_of (new_board b chips)).nets m ≡ Some new_wire
  new-on = kind-wire (new_wiring b chips) (new_units b chips) m both.kind both.new_kind

  only : (v : ℕ) → Among v new_wire.drivers → Among ((numbers_of b chips).unit v) wire.drivers
  only v a =
      let d = wire-driver (new_wiring b chips) (new_units b chips) m v new_wire new-on a in
      let k = net_of b.net (at_of (old-unit b absorbed live chips fit planned v d.unit d.found).0) in
      let same : k ≡ n = same_Some k n (sym (net-stands b absorbed live chips fit planned v d.unit d.found) ∙ ap (old_net b chips) d.on ∙ stands) in
      driver-wire b.net (units_from 0 b.chips) n ((numbers_of b chips).unit v) wire on (old-drives b absorbed live chips fit planned v d.unit d.found once d.can n same)

  pub placed : IsPlacedNet (equations_of b) (equations_of (new_board b chips)) absorbed live (numbers_of b chips) m
  placed = record {
    wire = wire;
    new = new_wire;
    found = ap (slice_get (equations_of b).nets) (ap or_zero stands) ∙ on;
    new_found = new-on;
    kind = refl;
    pull = refl;
    every = λ u a is_live. every b absorbed live chips given accepted fit planned once units m n wire new_wire on new-on stands seen u a is_live;
    only = only;
  }
