-- A new unit that has no enable row never drives.
use Rattle.std.proofs.Common.{ℕ, ◌≡◌, Bool, true, false, cond, List, Option, Some, None, is_some, refl, sym, ap, ◌∙◌}
use Rattle.mig_base.specs.declared.cells.Cell.{Cell}
use Rattle.mig_base.specs.declared.cells.Enable.TheVariants as enable
use Rattle.mig_base.specs.declared.circuit.Gate.{Gate}
use Rattle.mig_base.specs.declared.circuit.Gate.TheVariants.{Never}
use Rattle.mig_base.specs.Boards.{ChipUnit, can_drive, driver_of, enable_on, is_unit, low_pin}
use Rattle.mig_base.specs.DeviceTables.{enable_pin, is_22}
use Rattle.board.specs.Joined.{Joined, equations_of}
use Rattle.new_board.specs.NewChip.{NewChip, placed_register}
use Rattle.new_board.specs.NewFiles.{cell_by, cell_of, new_comb, new_enable}
use Rattle.new_board.proofs.WellMade.{IsFitChip, on-unit}
use Rattle.plans.specs.Placings.{old}
use Rattle.new_circuits.specs.NewNumbers.{new_units, new_wiring, IsNewUnit}
use Rattle.planned_boards.specs.Planned.{IsPlannedChip}
use Rattle.planned_nets.proofs.EnablePins.{gal-v8, never-pin}

module _ (b : Joined) (absorbed : List ℕ) (chips : List NewChip) (u : ChipUnit) (n : IsNewUnit b chips u) (fit : IsFitChip (old b) n.chip) (planned : IsPlannedChip b absorbed n.chip) (never : n.unit.enable ≡ Never) where
  -- what it drives with, by its cell
  abbrev by_cell : Cell → Gate
  by_cell cell = enable_on (new_wiring b chips) (new_units b chips) u.chip cell.enable

  cell-is : u.cell ≡ cell_by (old b) n.chip u.cell.pin n.unit (placed_register (equations_of b) n.unit)
  cell-is = n.cell ∙ ap (cell_of (old b) n.chip u.cell.pin) n.placed

  registered : (k : ℕ) → placed_register (equations_of b) n.unit ≡ Some k → (q : Bool) → is_22 n.chip.kind ≡ q →
      can_drive (enable_on (new_wiring b chips) (new_units b chips) u.chip (cond q (new_enable (old b) n.chip n.unit.enable) (enable.LowPin (enable_pin n.chip.kind)))) ≡ false
  registered k is true on = ap (λ (g : Gate). can_drive (enable_on (new_wiring b chips) (new_units b chips) u.chip (new_enable (old b) n.chip g))) never
  registered k is false on = ap (λ (m : ℕ). can_drive (low_pin m))
      (never-pin b absorbed chips u.chip n.chip n.unit n.found fit planned (gal-v8 n.chip.kind fit.gal on) (on-unit n.chip.units u.cell.pin n.unit n.placed).0 (ap (λ (o : Option ℕ). is_some o) is) never)

  at : (o : Option ℕ) → placed_register (equations_of b) n.unit ≡ o → can_drive (by_cell (cell_by (old b) n.chip u.cell.pin n.unit o)) ≡ false
  at None is =
      let idle_cell : u.cell ≡ new_comb (old b) n.chip u.cell.pin n.unit Never = cell-is ∙ ap (cell_by (old b) n.chip u.cell.pin n.unit) is ∙ ap (new_comb (old b) n.chip u.cell.pin n.unit) never in
      let wrong : true ≡ false = sym n.stands ∙ ap (is_unit u.cells) idle_cell in
      cc
  at (Some k) is = registered k is (is_22 n.chip.kind) refl

  pub never-drives : can_drive (driver_of (new_wiring b chips) (new_units b chips) u).enable ≡ false
  never-drives = ap (λ (cell : Cell). can_drive (by_cell cell)) cell-is ∙ at (placed_register (equations_of b) n.unit) refl
