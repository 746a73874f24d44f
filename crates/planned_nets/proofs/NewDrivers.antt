-- Each driver of a new net stands for a driver of the old one.
use Rattle.std.proofs.Common.{ℕ, ◌≡◌, Bool, true, false, ◌&&◌, List, Option, Some, refl, sym, ap, ◌∙◌, eqb}
use Rattle.std.specs.Prelude.{option_and_then}
use Rattle.std.specs.List.{slice_get}
use Rattle.std.specs.Option.{option_map}
use Rattle.std.proofs.lemmas.Option.{slice_get-map}
use Rattle.mig_base.specs.First.{or_else}
use Rattle.mig_base.specs.declared.circuit.Gate.{Gate}
use Rattle.mig_base.specs.declared.circuit.Gate.TheVariants.{Never, Product}
use Rattle.mig_base.specs.Among.{Among}
use Rattle.mig_base.specs.Boards.{ChipUnit, at_of, can_drive, driver_of, net_of, units_from}
use Rattle.mig_base.specs.DeviceTables.{clock_pin, enable_pin, is_v8}
use Rattle.mig_base.proofs.Amongs.{among-get}
use Rattle.board.specs.Joined.{Joined}
use Rattle.new_board.specs.declared.types.PlacedUnit.{PlacedUnit}
use Rattle.new_board.specs.NewChip.{OldBoard, NewChip, clock_net, enable_net, first_registered, unit_net, unit_net_of, unit_on, when}
use Rattle.new_board.specs.InputPins.{input_at, input_pins, pin_net, wire_for}
use Rattle.new_board.proofs.WellMade.{IsFitChip, on-unit}
use Rattle.plans.specs.Placings.{old}
use Rattle.new_circuits.specs.NewNumbers.{new_units, new_wiring, numbers_of, old_net, old_unit, or_zero, unit_of, IsNewUnit}
use Rattle.new_circuits.proofs.NewUnits.{new-unit}
use Rattle.new_circuits.proofs.PinNets.{pin-kept}
use Rattle.planned_boards.specs.Planned.{ArePlanned}
use Rattle.wired_boards.proofs.UnitPins.{cells-ordinary}
use Rattle.planned_nets.specs.PlacedOnce.{ArePlacedOnce}
use Rattle.planned_nets.proofs.NeverDrives.{never-drives}
use Rattle.planned_nets.proofs.Wires.{IsDriver, unit-driver, unit-there}

-- the pin of a unit stands on the unit's net
pub unit-stands : (b : OldBoard) (chip : NewChip) (pin : ℕ) (x : PlacedUnit) (n : ℕ) → unit_on chip.units pin ≡ Some x → unit_net b x.unit ≡ Some n → pin_net b chip pin ≡ Some n
unit-stands b chip pin x n e h =
    let rest = or_else (when (eqb pin (clock_pin chip.kind)) (clock_net b.circuit chip))
    (when (is_v8 chip.kind && eqb pin (enable_pin chip.kind)) (option_and_then (λ (x : PlacedUnit). enable_net b x.enable) (first_registered b.circuit chip))) in
    let input = option_and_then (wire_for b) (input_at (input_pins b chip) pin) in
    ap (λ (o : Option PlacedUnit). or_else (or_else (option_and_then (λ (x : PlacedUnit). unit_net b x.unit) o) rest) input) e ∙ ap (λ (o : Option ℕ). or_else (or_else o rest) input) h

module _ (b : Joined) (absorbed : List ℕ) (live : ℕ → Bool) (chips : List NewChip) (fit : (c : NewChip) → Among c chips → IsFitChip (old b) c) (planned : ArePlanned b absorbed live chips)
    (v : ℕ) (u : ChipUnit) (at : slice_get (new_units b chips) v ≡ Some u) where
  pub new : IsNewUnit b chips u
  new = new-unit b chips v u at

  pub there : Among new.chip chips
  there = among-get chips u.chip new.chip new.found

  pub on-chip : Among new.unit new.chip.units
  on-chip = (on-unit new.chip.units u.cell.pin new.unit new.placed).0

  -- the old unit, and its number
  pub unit-number : (numbers_of b chips).unit v ≡ new.unit.unit
  unit-number =
      ap or_zero (slice_get-map (old_unit chips) (new_units b chips) v ∙ ap (option_map (old_unit chips)) at)
      ∙ ap (λ (o : Option NewChip). unit_of (option_and_then (λ (c : NewChip). unit_on c.units u.cell.pin) o)) new.found ∙ ap unit_of new.placed

  pub old-unit : (o : ChipUnit) × (slice_get (units_from 0 b.chips) new.unit.unit ≡ Some o)
  old-unit =
      let rows = (planned.chip new.chip there).units new.unit on-chip in
      let o = unit-there b.net (units_from 0 b.chips) new.unit.unit rows.driver rows.found in
      (o.0, o.1)

  -- the net of the new unit stands for the net of the old one
  pub net-stands : old_net b chips (net_of (new_wiring b chips) (at_of u)) ≡ Some (net_of b.net (at_of old-unit.0))
  net-stands =
      let net : pin_net (old b) new.chip u.cell.pin ≡ Some (net_of b.net (at_of old-unit.0)) = unit-stands (old b) new.chip u.cell.pin new.unit (net_of b.net (at_of old-unit.0)) new.placed (ap (unit_net_of (old b)) old-unit.1) in
      ap (option_and_then (λ (o : Option ℕ). o)) (pin-kept b chips u.chip new.chip u.cell.pin new.found (cells-ordinary new.chip.kind u.cell.pin new.pin)) ∙ net

  -- if it may drive, so may the old one
  pub old-drives : ArePlacedOnce b absorbed chips → can_drive (driver_of (new_wiring b chips) (new_units b chips) u).enable ≡ true → (n : ℕ) → net_of b.net (at_of old-unit.0) ≡ n →
      IsDriver b.net (units_from 0 b.chips) n ((numbers_of b chips).unit v)
  old-drives once can n e = record {
    unit = old-unit.0;
    found = ap (slice_get (units_from 0 b.chips)) unit-number ∙ old-unit.1;
    on = e;
    can = by (driver_of b.net (units_from 0 b.chips) old-unit.0).enable refl;
  }
    where
      by : (g : Gate) → (driver_of b.net (units_from 0 b.chips) old-unit.0).enable ≡ g → can_drive g ≡ true
      by (Product lits) is = refl
      by Never is =
          let never : new.unit.enable ≡ Never = once.never new.chip new.unit (driver_of b.net (units_from 0 b.chips) old-unit.0) there on-chip (unit-driver b.net (units_from 0 b.chips) new.unit.unit old-unit.0 old-unit.1) is in
          let wrong : true ≡ false = sym can ∙ never-drives b absorbed chips u new (fit new.chip there) (planned.chip new.chip there) never in
          cc
