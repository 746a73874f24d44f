-- A registered unit on a V8 has the enable of its old unit, by the enable pin of its chip, and shows the register that stands for the old one.
use Rattle.std.proofs.Common.{ℕ, ◌≡◌, Bool, true, cond, List, [], ◌∷◌, ◌++◌, map, Option, Some, is_some, refl, sym, ap, ◌∙◌, subst}
use Rattle.std.specs.List.{AllByRecursion, filter, slice_get}
use Rattle.mig_base.specs.declared.cells.Cell.{Cell}
use Rattle.mig_base.specs.declared.cells.Enable.TheVariants as enable
use Rattle.mig_base.specs.declared.circuit.Read.TheVariants.{OfRegister}
use Rattle.mig_base.specs.declared.circuit.Gives.TheVariants.{Visible}
use Rattle.mig_base.specs.declared.circuit.Driver.{Driver}
use Rattle.mig_base.specs.declared.circuit.Circuit.{Circuit}
use Rattle.mig_base.specs.Among.{Among}
use Rattle.mig_base.specs.Boards.{ChipUnit, at_of, driver_of, enable_on, low_pin, net_of, place_of, registers_of}
use Rattle.mig_base.specs.DeviceTables.{enable_pin, is_v8}
use Rattle.mig_base.specs.Given.{IsGiven}
use Rattle.mig_base.specs.Reads.{IsNode, driver_reads}
use Rattle.mig_base.specs.Values.{row_reads}
use Rattle.board.specs.Joined.{Joined, equations_of}
use Rattle.new_board.specs.declared.types.PlacedUnit.{PlacedUnit}
use Rattle.new_board.specs.NewChip.{NewChip, first_of, first_registered, gate_products, is_registered_unit, placed_register, register_driven}
use Rattle.new_board.specs.NewFiles.{new_enable, pin_low_of}
use Rattle.new_board.proofs.Items.{among-filter}
use Rattle.new_board.proofs.WellMade.{IsFitChip, on-unit}
use Rattle.plans.specs.Placings.{old}
use Rattle.plans.specs.Fitting.{new_board}
use Rattle.fitting_levels.specs.NodeValues.{gate_by}
use Rattle.placed_boards.specs.Places.{IsPart, IsPlacedUnit}
use Rattle.new_circuits.specs.NewNumbers.{IsNewUnit, new_units, new_wiring, numbers_of}
use Rattle.planned_boards.specs.Planned.{HasPartRows, IsPlannedChip, SuitsV8}
use Rattle.planned_boards.proofs.CombUnits.{unit-nodes, unit-number}
use Rattle.planned_boards.proofs.EnablePins.{enable-pin, v8-no-22}
use Rattle.planned_boards.proofs.EnableRows.{enable-row}
use Rattle.planned_boards.proofs.NewRows.{gate-rows}
use Rattle.planned_boards.proofs.RegUnits.{gives-part, reg-cell, register-is}
use Rattle.planned_boards.proofs.SharedRows.{shared-rows}

first-there : {T : Type 0} (xs : List T) (x : T) → Among x xs → (y : T) × (first_of xs ≡ Some y)
first-there [] x m = absurd m
first-there (y ∷ ys) x m = (y, refl)

-- a chip with a registered unit has a first one
pub first-registered : (c : Circuit) (chip : NewChip) (x : PlacedUnit) → Among x chip.units → is_registered_unit c x ≡ true → (first : PlacedUnit) × (first_registered c chip ≡ Some first)
first-registered c chip x m e = first-there (filter (is_registered_unit c) chip.units) x (among-filter (is_registered_unit c) x chip.units m e)

module _ (b : Joined) (absorbed : List ℕ) (chips : List NewChip) (given : IsGiven (new_board b chips).net (new_board b chips).chips) (v : ℕ) (u : ChipUnit) (at : slice_get (new_units b chips) v ≡ Some u)
    (n : IsNewUnit b chips u) (fit : IsFitChip (old b) n.chip) (planned : IsPlannedChip b absorbed n.chip) (k : ℕ) (is : placed_register (equations_of b) n.unit ≡ Some k) (on_v8 : is_v8 n.chip.kind ≡ true) where
  abbrev a : Circuit
  a = equations_of b

  abbrev new : Circuit
  new = equations_of (new_board b chips)

  pub on-chip : Among n.unit n.chip.units
  on-chip = (on-unit n.chip.units u.cell.pin n.unit n.placed).0

  abbrev pub rows : HasPartRows b absorbed n.unit
  rows = planned.units n.unit on-chip

  abbrev pub d : Driver
  d = rows.driver

  registered : is_registered_unit a n.unit ≡ true
  registered = ap (λ (o : Option ℕ). is_some o) is

  pub first : (x : PlacedUnit) × (first_registered a n.chip ≡ Some x)
  first = first-registered a n.chip n.unit on-chip registered

  pub suits : SuitsV8 b first.0 n.unit
  suits = planned.suits n.unit first.0 on-chip on_v8 registered first.1

  abbrev pub pin : ℕ
  pin = net_of (new_wiring b chips) (u.chip, enable_pin n.chip.kind)

  abbrev pub place : ℕ
  place = place_of (u.chip, u.cell.pin) (map at_of (registers_of (new_units b chips)))

  abbrev pub made : Driver
  made = record { enable = low_pin pin; gives = Visible place; low = pin_low_of (slice_get a.units n.unit.unit) }

  pub driver-is : driver_of (new_wiring b chips) (new_units b chips) u ≡ made
  driver-is =
      ap (λ (c : Cell). driver_of (new_wiring b chips) (new_units b chips) (record { chip = u.chip; cells = u.cells; cell = c })) (reg-cell b absorbed chips given v u at n fit rows k is)
      ∙ ap (λ (q : Bool). record { enable = enable_on (new_wiring b chips) (new_units b chips) u.chip (cond q (new_enable (old b) n.chip n.unit.enable) (enable.LowPin (enable_pin n.chip.kind))); gives = made.gives; low = made.low })
      (v8-no-22 n.chip.kind on_v8)

  nodes : AllByRecursion (IsNode new) (row_reads made.enable ++ OfRegister place ∷ [])
  nodes = subst (λ (x : Driver). AllByRecursion (IsNode new) (driver_reads (Some x))) driver-is (unit-nodes b absorbed chips given v u at n)

  enable-part : IsPart a absorbed (numbers_of b chips) (λ f. gate_by f d.enable) (row_reads d.enable) (λ f. gate_by f made.enable) (row_reads made.enable)
  enable-part = enable-row b absorbed (numbers_of b chips) pin suits.net (enable-pin b chips u.chip n.chip n.found fit on_v8 first.0 first.1 suits.net suits.pin)
      (λ f. gate_by f d.enable) (row_reads d.enable) first.0.enable suits.pin
      (shared-rows a absorbed (λ f. gate_by f d.enable) (row_reads d.enable) (gate_products n.unit.enable) (gate_products first.0.enable) suits.enable
      (gate-rows a absorbed d.enable (gate_products n.unit.enable) (record { same = λ f h. rows.enable.same f h; named = λ w m. rows.enable.named w m })))

  pub placed-on-v8 : IsPlacedUnit a absorbed (numbers_of b chips) v (driver_of (new_wiring b chips) (new_units b chips) u)
  placed-on-v8 = subst (IsPlacedUnit a absorbed (numbers_of b chips) v) (sym driver-is) (record {
    driver = d;
    found = ap (slice_get a.units) (unit-number b absorbed chips given v u at n) ∙ rows.found;
    enable = enable-part;
    gives = gives-part b absorbed chips given v u at n fit rows k is made refl refl (register-is b absorbed chips given v u at n fit rows k is (row_reads made.enable) nodes) d.gives (sym (ap register_driven rows.found) ∙ is);
  })
