-- What a registered unit on a V8 of the new board reads.
use Rattle.std.proofs.Common.{ℕ, ◌≡◌, ◌⊎◌, ◌<◌, ◌≤◌, true, false, List, [], ◌∷◌, Option, Some, is_some, sym, ap, subst, inl, inr, arith}
use Rattle.std.specs.List.{filter, slice_get}
use Rattle.std.proofs.lemmas.Bool.{cases_lt}
use Rattle.mig_base.specs.declared.circuit.Read.{Read}
use Rattle.mig_base.specs.declared.circuit.Read.TheVariants.{OfNet, OfRegister}
use Rattle.mig_base.specs.declared.circuit.Driver.{Driver}
use Rattle.mig_base.specs.declared.circuit.Circuit.{Circuit}
use Rattle.mig_base.specs.Among.{Among}
use Rattle.mig_base.specs.Boards.{ChipUnit, driver_of, net_of}
use Rattle.mig_base.specs.DeviceTables.{enable_pin, is_v8, ordinary_pins}
use Rattle.mig_base.specs.Reads.{IsNode, driver_reads}
use Rattle.mig_base.specs.Values.{row_reads}
use Rattle.mig_base.proofs.Amongs.{among-split}
use Rattle.board.specs.Joined.{Joined, equations_of}
use Rattle.read_nodes.proofs.Columns.{pin-among}
use Rattle.new_board.specs.declared.types.PlacedUnit.{PlacedUnit}
use Rattle.new_board.specs.NewChip.{NewChip, first_registered, gate_products, is_registered_unit, placed_register}
use Rattle.new_board.proofs.Columns.{first-among}
use Rattle.new_board.proofs.Items.{among-unfilter}
use Rattle.new_board.proofs.WellMade.{IsFitChip}
use Rattle.plans.specs.Placings.{old}
use Rattle.plans.specs.Fitting.{new_board}
use Rattle.plans.specs.Forms.{is_absorbed_read}
use Rattle.placed_boards.specs.Places.{IsSeen}
use Rattle.new_circuits.specs.NewNumbers.{IsNewUnit, is_seen, new_units, new_wiring, numbers_of}
use Rattle.planned_boards.specs.Planned.{IsEnablePin, IsPlannedChip, SuitsV8}
use Rattle.planned_boards.proofs.EnablePins.{enable-pin, ordinary-there, pin-net}
use Rattle.planned_boards.proofs.PinUnits as on_v8
use Rattle.planned_parts.specs.KeptChips.{AreKeptChips}
use Rattle.planned_parts.proofs.PinReads.{enable-stays, low-reads}
use Rattle.planned_parts.proofs.Unabsorbed.{literal-stays, pin-seen}
use Rattle.planned_parts.proofs.UnitReads.{shown}
use Rattle.planned_parts.proofs.Units.{kept-chip, on-its-chip}

-- the first registered unit stands on its chip
pub first-on : (c : Circuit) (chip : NewChip) (x : PlacedUnit) → first_registered c chip ≡ Some x → Among x chip.units
first-on c chip x e = (among-unfilter (is_registered_unit c) x chip.units (first-among (filter (is_registered_unit c) chip.units) x e)).0

module _ (b : Joined) (absorbed : List ℕ) (chips : List NewChip) (kept : AreKeptChips b absorbed chips) (v : ℕ) (u : ChipUnit) (at : slice_get (new_units b chips) v ≡ Some u) (n : IsNewUnit b chips u)
    (k : ℕ) (is : placed_register (equations_of b) n.unit ≡ Some k) (e : is_v8 n.chip.kind ≡ true) where
  abbrev a : Circuit
  a = equations_of b

  abbrev new : Circuit
  new = equations_of (new_board b chips)

  abbrev Sees : Read → Type 0
  Sees w = IsSeen new (is_seen b absorbed chips) w

  abbrev fit : IsFitChip (old b) n.chip
  fit = (kept-chip b absorbed chips kept v u at n).fit

  abbrev planned : IsPlannedChip b absorbed n.chip
  planned = (kept-chip b absorbed chips kept v u at n).planned

  abbrev place : ℕ
  place = on_v8.place b absorbed chips kept.given v u at n fit planned k is e

  abbrev made : Driver
  made = on_v8.made b absorbed chips kept.given v u at n fit planned k is e

  abbrev pin : ℕ
  pin = net_of (new_wiring b chips) (u.chip, enable_pin n.chip.kind)

  first : (x : PlacedUnit) × (first_registered a n.chip ≡ Some x)
  first = on_v8.first b absorbed chips kept.given v u at n fit planned k is e

  suits : SuitsV8 b first.0 n.unit
  suits = planned.suits n.unit first.0 (on-its-chip b absorbed chips kept v u at n) e (ap (λ (o : Option ℕ). is_some o) is) first.1

  stands : IsEnablePin (numbers_of b chips) pin suits.net
  stands = enable-pin b chips u.chip n.chip n.found fit e first.0 first.1 suits.net suits.pin

  high : 2 ≤ pin → 2 ≤ suits.net
  high h = of_cases (cases_lt suits.net 2)
    where
      of_cases : (suits.net < 2) ⊎ (2 ≤ suits.net) → 2 ≤ suits.net
      of_cases (inr g) = g
      of_cases (inl low) = let same : pin ≡ suits.net = stands.low low in absurd (omega (arith, same, low, h))

  stay : 2 ≤ pin → is_absorbed_read a absorbed (OfNet suits.net) ≡ false
  stay h = enable-stays b absorbed kept.absorbable suits.net (high h) first.0.enable suits.pin
      (λ t x mt mx. literal-stays a absorbed (gate_products first.0.enable)
      ((kept-chip b absorbed chips kept v u at n).staying first.0 (first-on a n.chip first.0 first.1)).enable t x mt mx)

  seen : 2 ≤ pin → Sees (OfNet pin)
  seen h = pin-seen b absorbed chips u.chip n.chip (enable_pin n.chip.kind) suits.net n.found
      (pin-among (ordinary_pins n.chip.kind) (enable_pin n.chip.kind) (ordinary-there n.chip.kind e))
      (pin-net (old b) n.chip fit e first.0 first.1 suits.net suits.pin) (stay h)

  pub reads-on-v8 : (w : Read) → Among w (driver_reads (Some (driver_of (new_wiring b chips) (new_units b chips) u))) → IsNode new w → Sees w
  reads-on-v8 w m node =
      by (among-split w (row_reads made.enable) (OfRegister place ∷ [])
      (subst (λ (x : Driver). Among w (driver_reads (Some x))) (on_v8.driver-is b absorbed chips kept.given v u at n fit planned k is e) m))
    where
      by : Among w (row_reads made.enable) ⊎ Among w (OfRegister place ∷ []) → Sees w
      by (inl h) = let l = low-reads pin w h in subst Sees (sym l.0) (seen l.1)
      by (inr h) = shown b absorbed chips kept v u at n w place h node
