-- A live driver of an old net that isn't absorbed floats, or its new unit drives the new net.
use Rattle.std.proofs.Common.{ℕ, ◌≡◌, ◌⊎◌, Bool, true, false, not, List, Some, refl, sym, ap, ◌∙◌, subst, inl, inr}
use Rattle.std.specs.List.{slice_get}
use Rattle.std.proofs.lemmas.Option.{same_Some}
use Rattle.mig_base.specs.declared.circuit.Driver.{Driver}
use Rattle.mig_base.specs.declared.circuit.Wire.{Wire}
use Rattle.mig_base.specs.declared.circuit.Circuit.{Circuit}
use Rattle.mig_base.specs.Accepted.{IsAccepted}
use Rattle.mig_base.specs.Among.{Among}
use Rattle.mig_base.specs.Boards.{ChipUnit, at_of, can_drive, driver_of, is_unit, net_of, units_from}
use Rattle.mig_base.specs.Given.{IsGiven}
use Rattle.mig_base.proofs.Amongs.{among-get}
use Rattle.board.specs.Joined.{Joined, equations_of}
use Rattle.structure.specs.Live.{DrivesWire}
use Rattle.read_nodes.proofs.Sources.{unit_of_cell}
use Rattle.new_board.specs.declared.types.PlacedUnit.{PlacedUnit}
use Rattle.new_board.specs.NewChip.{NewChip, unit_net_of, unit_on}
use Rattle.new_board.specs.InputPins.{pin_net}
use Rattle.new_board.specs.NewFiles.{new_cell, new_cells}
use Rattle.new_board.proofs.NewWiring.{cell-pin}
use Rattle.new_board.proofs.WellMade.{IsFitChip, IsFitUnit}
use Rattle.plans.specs.Placings.{old}
use Rattle.plans.specs.Fitting.{new_board}
use Rattle.carried_boards.specs.Carries.{Floats}
use Rattle.placed_boards.specs.Places.{IsPlacedUnit}
use Rattle.new_circuits.specs.NewNumbers.{is_seen, new_units, new_wiring, numbers_of, old_net, stays, IsNewUnit}
use Rattle.planned_boards.specs.Planned.{ArePlanned, IsPlaced}
use Rattle.wired_boards.proofs.ApartUnits.{given-wired}
use Rattle.wired_boards.proofs.UnitPins.{cells-ordinary}
use Rattle.planned_nets.specs.PlacedOnce.{ArePlacedOnce}
use Rattle.planned_nets.proofs.Absorbed.{net-absorbed, own-net}
use Rattle.planned_nets.proofs.Floating.{idle-floats, never-floats}
use Rattle.planned_nets.proofs.NewCells.{no-unit, unit-at}
use Rattle.planned_nets.proofs.NewDrivers.{new, unit-number, unit-stands}
use Rattle.planned_nets.proofs.SameNet.{same-net}
use Rattle.planned_nets.proofs.Wires.{IsDriver, driver-wire, unit-driver, wire-driver}

module _ (b : Joined) (absorbed : List ℕ) (live : ℕ → Bool) (chips : List NewChip) (given : IsGiven b.net b.chips) (accepted : IsAccepted (equations_of b))
    (fit : (c : NewChip) → Among c chips → IsFitChip (old b) c) (planned : ArePlanned b absorbed live chips) (once : ArePlacedOnce b absorbed chips)
    (units : (v : ℕ) (d : Driver) → slice_get (equations_of (new_board b chips)).units v ≡ Some d → IsPlacedUnit (equations_of b) absorbed (numbers_of b chips) v d)
    (m n : ℕ) (w new_w : Wire) (on : slice_get (equations_of b).nets n ≡ Some w) (new_on : slice_get (equations_of (new_board b chips)).nets m ≡ Some new_w) (stands : old_net b chips m ≡ Some n) where
  abbrev a : Circuit
  a = equations_of b

  abbrev IsCarried : ℕ → Type 0
  IsCarried u = Floats a (equations_of (new_board b chips)) absorbed (numbers_of b chips) u ⊎ ((v : ℕ) × Among v new_w.drivers × ((numbers_of b chips).unit v ≡ u))

  module _ (j : ℕ) (chip : NewChip) (x : PlacedUnit) (found : slice_get chips j ≡ Some chip) (placed : Among x chip.units) (drives : Among x.unit w.drivers) where
    there : Among chip chips
    there = among-get chips j chip found

    its : IsFitUnit (old b) chip x
    its = (fit chip there).units x placed

    d : IsDriver b.net (units_from 0 b.chips) n x.unit
    d = wire-driver b.net (units_from 0 b.chips) n x.unit w on drives

    abbrev new_one : ChipUnit
    new_one = unit_of_cell j (new_cells (old b) chip) (new_cell (old b) chip x.pin)

    pin-is : new_one.cell.pin ≡ x.pin
    pin-is = cell-pin (old b) chip x.pin

    -- the new unit is that of this one
    number : (v : ℕ) → slice_get (new_units b chips) v ≡ Some new_one → (numbers_of b chips).unit v ≡ x.unit
    number v e =
        let u : IsNewUnit b chips new_one = new b absorbed live chips fit planned v new_one e in
        let chip_is : u.chip ≡ chip = same_Some u.chip chip (sym u.found ∙ found) in
        let same : u.unit ≡ x = same_Some u.unit x (sym u.placed ∙ (λ i. unit_on (chip_is i).units (pin-is i)) ∙ its.on) in
        unit-number b absorbed live chips fit planned v new_one e ∙ ap (λ (y : PlacedUnit). y.unit) same

    -- it stands on the new net
    net : pin_net (old b) chip x.pin ≡ Some n
    net = unit-stands (old b) chip x.pin x n its.on (ap (unit_net_of (old b)) d.found ∙ ap (λ (k : ℕ). Some k) d.on)

    new-net-is : net_of (new_wiring b chips) (at_of new_one) ≡ m
    new-net-is = ap (λ (p : ℕ). net_of (new_wiring b chips) (j, p)) pin-is
        ∙ sym (same-net b absorbed chips given accepted once j chip x found placed (cells-ordinary chip.kind x.pin its.cell) n net w on drives d m stands)

    by-enable : (v : ℕ) → slice_get (new_units b chips) v ≡ Some new_one → (q : Bool) → can_drive (driver_of (new_wiring b chips) (new_units b chips) new_one).enable ≡ q → IsCarried x.unit
    by-enable v e true can = inr (v, driver-wire (new_wiring b chips) (new_units b chips) m v new_w new_on (record { unit = new_one; found = e; on = new-net-is; can = can }), number v e)
    by-enable v e false can = inl (idle-floats a (equations_of (new_board b chips)) absorbed (numbers_of b chips) x.unit v (driver_of (new_wiring b chips) (new_units b chips) new_one)
        (units v (driver_of (new_wiring b chips) (new_units b chips) new_one) (unit-driver (new_wiring b chips) (new_units b chips) v new_one e)) can (number v e))

    by-cell : (q : Bool) → is_unit (new_cells (old b) chip) (new_cell (old b) chip x.pin) ≡ q → IsCarried x.unit
    by-cell false e = inl (never-floats b absorbed (equations_of (new_board b chips)) (numbers_of b chips) x ((planned.chip chip there).units x placed) (no-unit b chips j chip x found its.cell its.on e))
    by-cell true e = let v = unit-at b chips j chip x found its.cell its.on e in by-enable v.0 v.1 (can_drive (driver_of (new_wiring b chips) (new_units b chips) new_one).enable) refl

    carried : IsCarried x.unit
    carried = by-cell (is_unit (new_cells (old b) chip) (new_cell (old b) chip x.pin)) refl

  pub every : is_seen b absorbed chips m ≡ true → (u : ℕ) → Among u w.drivers → live u ≡ true → IsCarried u
  every seen u drives is_live =
      let d = wire-driver b.net (units_from 0 b.chips) n u w on drives in
      at (planned.every u (driver_of b.net (units_from 0 b.chips) d.unit) (unit-driver b.net (units_from 0 b.chips) u d.unit d.found) is_live)
    where
      at : Among u absorbed ⊎ IsPlaced chips u → IsCarried u
      at (inl listed) =
          let is = own-net a absorbed planned.absorbable (given-wired b.net b.chips given) n u listed (subst (DrivesWire u) (sym on) drives) in
          let gone : is_seen b absorbed chips m ≡ false = ap (stays b absorbed) stands ∙ ap (λ (q : Bool). not q) (net-absorbed a absorbed n u is) in
          let wrong : true ≡ false = sym seen ∙ gone in
          cc
      at (inr p) = subst IsCarried p.number (carried p.place p.chip p.unit p.found p.placed (subst (λ (k : ℕ). Among k w.drivers) (sym p.number) drives))
