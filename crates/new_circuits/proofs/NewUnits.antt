-- Each unit of the new board is that of a placed unit on its pin.
use Rattle.std.proofs.Common.{ℕ, ◌≡◌, Bool, true, false, List, map, Option, Some, None, refl, sym, ap, ◌∙◌, subst, arith}
use Rattle.std.specs.List.{slice_get}
use Rattle.std.specs.Option.{option_map}
use Rattle.std.proofs.lemmas.Option.{same_Some, slice_get-map}
use Rattle.mig_base.specs.declared.cells.Cell.{Cell}
use Rattle.mig_base.specs.declared.cells.ChipCells.{ChipCells}
use Rattle.mig_base.specs.Among.{Among}
use Rattle.mig_base.specs.DeviceTables.{cell_pins}
use Rattle.mig_base.specs.Boards.{ChipUnit, is_unit, units_from}
use Rattle.mig_base.proofs.Amongs.{among-get, among-map}
use Rattle.board.specs.Joined.{Joined}
use Rattle.read_nodes.proofs.Sources.{IsOn, unit-on}
use Rattle.new_board.specs.declared.types.FittedChip.{FittedChip}
use Rattle.new_board.specs.declared.types.PlacedUnit.{PlacedUnit}
use Rattle.new_board.specs.NewChip.{NewChip, unit_on}
use Rattle.new_board.specs.NewFiles.{cell_of, fitted, new_cell, new_cells}
use Rattle.new_board.proofs.NewWiring.{cell-pin}
use Rattle.plans.specs.Placings.{old}
use Rattle.plans.specs.Fitting.{fitted_chips, new_board}
use Rattle.new_circuits.specs.NewNumbers.{new_units, IsNewUnit}

module _ (b : Joined) (chips : List NewChip) where
  -- the chip of new cells
  chip-of : (i : ℕ) (c : ChipCells) → slice_get (new_board b chips).chips i ≡ Some c → (chip : NewChip) × (slice_get chips i ≡ Some chip) × (c ≡ new_cells (old b) chip)
  chip-of i c e =
      at (slice_get chips i) refl
      (sym (slice_get-map (λ (f : FittedChip). f.cells) (fitted_chips b chips) i ∙ ap (option_map (λ (f : FittedChip). f.cells)) (slice_get-map (fitted (old b)) chips i)) ∙ e)
    where
      at : (o : Option NewChip) → slice_get chips i ≡ o → option_map (λ (f : FittedChip). f.cells) (option_map (fitted (old b)) o) ≡ Some c →
          (chip : NewChip) × (slice_get chips i ≡ Some chip) × (c ≡ new_cells (old b) chip)
      at None is h = cc
      at (Some chip) is h = (chip, is, sym (same_Some (new_cells (old b) chip) c h))

  -- a cell that is no Idle one has a unit
  placed-on : (chip : NewChip) (pin : ℕ) → is_unit (new_cells (old b) chip) (new_cell (old b) chip pin) ≡ true → (x : PlacedUnit) × (unit_on chip.units pin ≡ Some x)
  placed-on chip pin h = at (unit_on chip.units pin) refl h
    where
      at : (o : Option PlacedUnit) → unit_on chip.units pin ≡ o → is_unit (new_cells (old b) chip) (cell_of (old b) chip pin o) ≡ true → (x : PlacedUnit) × (unit_on chip.units pin ≡ Some x)
      at None is e = let wrong : false ≡ true = e in cc
      at (Some x) is e = (x, is)

  pub new-unit : (v : ℕ) (u : ChipUnit) → slice_get (new_units b chips) v ≡ Some u → IsNewUnit b chips u
  new-unit v u e =
      let on : IsOn 0 (new_board b chips).chips u = unit-on 0 (new_board b chips).chips u (among-get (new_units b chips) v u e) in
      let number : u.chip ≡ on.place = omega (arith, on.chip) in
      let chip = chip-of on.place u.cells on.cells in
      let cell = among-map (new_cell (old b) chip.0) u.cell (cell_pins chip.0.kind) (subst (λ (c : ChipCells). Among u.cell c.cells) chip.2 on.cell) in
      let pin : cell.0 ≡ u.cell.pin = sym (ap (λ (x : Cell). x.pin) cell.2 ∙ cell-pin (old b) chip.0 cell.0) in
      let is : u.cell ≡ new_cell (old b) chip.0 u.cell.pin = cell.2 ∙ ap (new_cell (old b) chip.0) pin in
      let stands : is_unit (new_cells (old b) chip.0) (new_cell (old b) chip.0 u.cell.pin) ≡ true =
      subst (λ (c : ChipCells). is_unit c (new_cell (old b) chip.0 u.cell.pin) ≡ true) chip.2 (subst (λ (x : Cell). is_unit u.cells x ≡ true) is on.unit) in
      let placed = placed-on chip.0 u.cell.pin stands in
      record {
        chip = chip.0;
        found = ap (slice_get chips) number ∙ chip.1;
        pin = subst (λ (p : ℕ). Among p (cell_pins chip.0.kind)) pin cell.1;
        cells = chip.2;
        cell = is;
        unit = placed.0;
        placed = placed.1;
        stands = on.unit;
      }
