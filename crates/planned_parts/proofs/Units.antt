-- Each unit of the new board has the enable and the logic of its old unit.
use Rattle.std.proofs.Common.{ℕ, ◌≡◌, Bool, true, false, List, Option, Some, None, refl, sym, ◌∙◌, subst}
use Rattle.std.specs.List.{slice_get}
use Rattle.std.specs.Option.{option_map}
use Rattle.std.proofs.lemmas.Option.{same_Some, slice_get-map}
use Rattle.mig_base.specs.declared.kinds.Kind.{Kind}
use Rattle.mig_base.specs.declared.kinds.Kind.TheVariants.{Gal16V8, Gal20V8, Gal22V10, Gal22V10Q}
use Rattle.mig_base.specs.declared.circuit.Driver.{Driver}
use Rattle.mig_base.specs.Among.{Among}
use Rattle.mig_base.specs.Boards.{ChipUnit, driver_of}
use Rattle.mig_base.specs.DeviceTables.{is_22, is_gal, is_v8}
use Rattle.mig_base.proofs.Amongs.{among-get}
use Rattle.board.specs.Joined.{Joined, equations_of}
use Rattle.new_board.specs.NewChip.{NewChip, placed_register}
use Rattle.new_board.proofs.WellMade.{on-unit}
use Rattle.plans.specs.Fitting.{new_board}
use Rattle.placed_boards.specs.Places.{IsPlacedUnit}
use Rattle.new_circuits.specs.NewNumbers.{IsNewUnit, new_units, new_wiring, numbers_of}
use Rattle.new_circuits.proofs.NewUnits.{new-unit}
use Rattle.planned_boards.proofs.CombUnits.{comb-placed}
use Rattle.planned_boards.proofs.PinUnits.{placed-on-v8}
use Rattle.planned_boards.proofs.RegUnits.{placed-on-22}
use Rattle.planned_parts.specs.KeptChips.{AreKeptChips, IsKeptChip}

pub v8-kind : (k : Kind) → is_gal k ≡ true → is_22 k ≡ false → is_v8 k ≡ true
v8-kind Gal16V8 g e = refl
v8-kind Gal20V8 g e = refl
v8-kind Gal22V10 g e = cc
v8-kind Gal22V10Q g e = cc
v8-kind _ g e = cc

module _ (b : Joined) (absorbed : List ℕ) (chips : List NewChip) (kept : AreKeptChips b absorbed chips) (v : ℕ) (u : ChipUnit) (at : slice_get (new_units b chips) v ≡ Some u) (n : IsNewUnit b chips u) where
  abbrev Goal : Type 0
  Goal = IsPlacedUnit (equations_of b) absorbed (numbers_of b chips) v (driver_of (new_wiring b chips) (new_units b chips) u)

  pub kept-chip : IsKeptChip b absorbed n.chip
  kept-chip = kept.chip n.chip (among-get chips u.chip n.chip n.found)

  pub on-its-chip : Among n.unit n.chip.units
  on-its-chip = (on-unit n.chip.units u.cell.pin n.unit n.placed).0

  registered : (k : ℕ) → placed_register (equations_of b) n.unit ≡ Some k → (q : Bool) → is_22 n.chip.kind ≡ q → Goal
  registered k is true e = placed-on-22 b absorbed chips kept.given v u at n kept-chip.fit (kept-chip.planned.units n.unit on-its-chip) k is e
  registered k is false e = placed-on-v8 b absorbed chips kept.given v u at n kept-chip.fit kept-chip.planned k is (v8-kind n.chip.kind kept-chip.fit.gal e)

  by-register : (o : Option ℕ) → placed_register (equations_of b) n.unit ≡ o → Goal
  by-register None is = comb-placed b absorbed chips kept.given v u at n kept-chip.fit (kept-chip.planned.units n.unit on-its-chip) is
  by-register (Some k) is = registered k is (is_22 n.chip.kind) refl

  pub chip-unit-placed : Goal
  chip-unit-placed = by-register (placed_register (equations_of b) n.unit) refl

pub unit-placed : (b : Joined) (absorbed : List ℕ) (chips : List NewChip) → AreKeptChips b absorbed chips → (v : ℕ) (new : Driver) → slice_get (equations_of (new_board b chips)).units v ≡ Some new →
    IsPlacedUnit (equations_of b) absorbed (numbers_of b chips) v new
unit-placed b absorbed chips kept v new e = at (slice_get (new_units b chips) v) refl (sym (slice_get-map (driver_of (new_wiring b chips) (new_units b chips)) (new_units b chips) v) ∙ e)
  where
    at : (o : Option ChipUnit) → slice_get (new_units b chips) v ≡ o → option_map (driver_of (new_wiring b chips) (new_units b chips)) o ≡ Some new →
        IsPlacedUnit (equations_of b) absorbed (numbers_of b chips) v new
    at None is h = cc
    at (Some u) is h =
        subst (IsPlacedUnit (equations_of b) absorbed (numbers_of b chips) v) (same_Some (driver_of (new_wiring b chips) (new_units b chips) u) new h)
        (chip-unit-placed b absorbed chips kept v u is (new-unit b chips v u is))
