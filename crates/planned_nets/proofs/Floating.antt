-- An old unit floats where its enable is 0 at all levels that fit.
use Rattle.std.proofs.Common.{ℕ, ◌≡◌, false, List, Some, refl, sym, ap, ◌∙◌}
use Rattle.std.specs.List.{slice_get}
use Rattle.mig_base.specs.declared.levels.Level.{Level}
use Rattle.mig_base.specs.declared.levels.Level.TheVariants.{Zero, Z}
use Rattle.mig_base.specs.declared.circuit.Driver.{Driver}
use Rattle.mig_base.specs.declared.circuit.Gate.{Gate}
use Rattle.mig_base.specs.declared.circuit.Gate.TheVariants.{Never, Product}
use Rattle.mig_base.specs.declared.circuit.Circuit.{Circuit}
use Rattle.mig_base.specs.Boards.{can_drive}
use Rattle.mig_base.specs.Levels.{or_x}
use Rattle.level_laws.specs.Settled.{gated}
use Rattle.mig_base.specs.Values.{inverted}
use Rattle.board.specs.Joined.{Joined, equations_of}
use Rattle.new_board.specs.declared.types.PlacedUnit.{PlacedUnit}
use Rattle.new_board.specs.NewChip.{gate_products}
use Rattle.fitting_levels.specs.NodeValues.{NodeLevels, drive_at, drive_by, gate_by, logic_by, terms_by}
use Rattle.carried_boards.specs.Carries.{Numbers, Floats, through}
use Rattle.placed_boards.specs.Places.{IsPlacedUnit}
use Rattle.planned_boards.specs.Planned.{HasPartRows}
use Rattle.planned_boards.proofs.NewRows.{gate-rows}

-- a unit that isn't enabled
zero-floats : (c : Circuit) (f : NodeLevels) (u : ℕ) (d : Driver) → slice_get c.units u ≡ Some d → gate_by f d.enable ≡ Zero → drive_at c f u ≡ Z
zero-floats c f u d e zero_gate = ap (or_x (drive_by f)) e ∙ ap (λ (x : Level). gated x (logic_by f d)) zero_gate

-- whose placed unit has no enable row
pub never-floats : (b : Joined) (absorbed : List ℕ) (new : Circuit) (numbers : Numbers) (x : PlacedUnit) → HasPartRows b absorbed x → x.enable ≡ Never → Floats (equations_of b) new absorbed numbers x.unit
never-floats b absorbed new numbers x rows never f fit =
    let gate = gate-rows (equations_of b) absorbed rows.driver.enable (gate_products x.enable) (record { same = λ g h. rows.enable.same g h; named = λ w m. rows.enable.named w m }) in
    zero-floats (equations_of b) f x.unit rows.driver rows.found (gate.same f fit ∙ ap (λ (g : Gate). inverted false (terms_by f (gate_products g))) never)

-- whose new unit is never enabled
pub idle-floats : (a new : Circuit) (absorbed : List ℕ) (numbers : Numbers) (u v : ℕ) (d : Driver) → IsPlacedUnit a absorbed numbers v d → can_drive d.enable ≡ false → numbers.unit v ≡ u → Floats a new absorbed numbers u
idle-floats a new absorbed numbers u v d placed idle number f fit =
    zero-floats a f u placed.driver (ap (slice_get a.units) (sym number) ∙ placed.found) (placed.enable.same f fit ∙ at d.enable idle)
  where
    at : (g : Gate) → can_drive g ≡ false → gate_by (through numbers f) g ≡ Zero
    at Never e = refl
    at (Product lits) e = cc
