-- The new cell of a placed unit is a unit, or the placed unit is never enabled.
use Rattle.std.proofs.Common.{ℕ, ◌≡◌, ◌+◌, Bool, true, false, not, cond, ◌&&◌, ◌||◌, List, [], ◌∷◌, Option, Some, None, refl, sym, ap, ◌∙◌, subst, arith}
use Rattle.std.specs.List.{list_any, slice_get}
use Rattle.std.specs.Option.{option_map}
use Rattle.std.proofs.lemmas.Bool.{and_parts}
use Rattle.std.proofs.lemmas.Option.{slice_get-map}
use Rattle.mig_base.specs.declared.cells.Cell.{Cell}
use Rattle.mig_base.specs.declared.cells.ChipCells.{ChipCells}
use Rattle.mig_base.specs.declared.cells.Enable.TheVariants as enable
use Rattle.mig_base.specs.declared.circuit.Gate.{Gate}
use Rattle.mig_base.specs.declared.circuit.Gate.TheVariants.{Never, Product}
use Rattle.mig_base.specs.Among.{Among}
use Rattle.mig_base.specs.Boards.{in_cell, in_row, is_mute, is_unit}
use Rattle.mig_base.specs.DeviceTables.{cell_pins, enable_pin, is_22}
use Rattle.mig_base.specs.WellFormed.{is_never}
use Rattle.mig_base.proofs.Amongs.{map-among}
use Rattle.board.specs.Joined.{Joined, equations_of}
use Rattle.read_nodes.proofs.Sources.{cell-unit, unit_of_cell}
use Rattle.new_board.specs.declared.types.FittedChip.{FittedChip}
use Rattle.new_board.specs.declared.types.PlacedUnit.{PlacedUnit}
use Rattle.new_board.specs.NewChip.{NewChip, placed_register, unit_on}
use Rattle.new_board.specs.NewFiles.{cell_by, cell_of, fitted, new_cell, new_cells, new_comb, new_enable, new_reg}
use Rattle.new_board.proofs.Items.{get-among}
use Rattle.plans.specs.Placings.{old}
use Rattle.plans.specs.Fitting.{fitted_chips, new_board}
use Rattle.new_circuits.specs.NewNumbers.{new_units}

module _ (b : Joined) (chips : List NewChip) (j : ℕ) (chip : NewChip) (x : PlacedUnit) (found : slice_get chips j ≡ Some chip) (cell : Among x.pin (cell_pins chip.kind)) (on : unit_on chip.units x.pin ≡ Some x) where
  abbrev cells : ChipCells
  cells = new_cells (old b) chip

  abbrev own : Cell
  own = new_cell (old b) chip x.pin

  own-is : own ≡ cell_by (old b) chip x.pin x (placed_register (equations_of b) x)
  own-is = ap (cell_of (old b) chip x.pin) on

  -- the enable of a mute cell
  row-never : (g : Gate) → is_never (new_enable (old b) chip g) ≡ true → g ≡ Never
  row-never Never e = refl
  row-never (Product []) e = cc
  row-never (Product (y ∷ ys)) e = cc

  mute-never : (q : Bool) → (q && is_never (cond q (new_enable (old b) chip x.enable) (enable.LowPin (enable_pin chip.kind)))) ≡ true → x.enable ≡ Never
  mute-never true e = row-never x.enable e
  mute-never false e = cc

  turned : (q : Bool) → not q ≡ false → q ≡ true
  turned true e = refl
  turned false e = cc

  comb-never : (g : Gate) → x.enable ≡ g → is_unit cells (new_comb (old b) chip x.pin x g) ≡ false → x.enable ≡ Never
  comb-never Never is e = is
  comb-never (Product lits) is e = let wrong : true ≡ false = e in cc

  by-register : (o : Option ℕ) → is_unit cells (cell_by (old b) chip x.pin x o) ≡ false → x.enable ≡ Never
  by-register None e = comb-never x.enable refl e
  by-register (Some k) e =
      let cell_new = new_reg (old b) chip x.pin x in
      let mute : is_mute cells cell_new ≡ true = turned (is_mute cells cell_new) e in
      mute-never (is_22 chip.kind)
      (and_parts (is_22 chip.kind && is_never cell_new.enable) (not (list_any (in_cell x.pin) cells.cells || in_row x.pin cells.reset || in_row x.pin cells.preset)) mute).0

  pub no-unit : is_unit cells own ≡ false → x.enable ≡ Never
  no-unit e = by-register (placed_register (equations_of b) x) (ap (is_unit cells) (sym own-is) ∙ e)

  -- the new unit
  pub unit-at : is_unit cells own ≡ true → (v : ℕ) × (slice_get (new_units b chips) v ≡ Some (unit_of_cell j cells own))
  unit-at e =
      let chip_cells : slice_get (new_board b chips).chips j ≡ Some cells =
      slice_get-map (λ (f : FittedChip). f.cells) (fitted_chips b chips) j ∙ ap (option_map (λ (f : FittedChip). f.cells)) (slice_get-map (fitted (old b)) chips j ∙ ap (option_map (fitted (old b))) found) in
      let start : 0 + j ≡ j = omega arith in
      get-among (unit_of_cell j cells own) (new_units b chips)
      (subst (λ (i : ℕ). Among (unit_of_cell i cells own) (new_units b chips)) start
      (cell-unit 0 (new_board b chips).chips j cells own chip_cells (map-among (new_cell (old b) chip) x.pin (cell_pins chip.kind) cell) e))
