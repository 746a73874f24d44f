-- The registered units of a new chip share its clock, its rows and its enable pin.
use Rattle.std.proofs.Common.{ℕ, ◌≡◌, Bool, true, false, not, Option, Some, None, is_some, is_none, refl, sym, ap, ◌∙◌}
use Rattle.std.specs.Prelude.{option_and_then}
use Rattle.std.specs.List.{filter, slice_get}
use Rattle.std.specs.Option.{option_map}
use Rattle.mig_base.specs.declared.circuit.Gate.{Gate}
use Rattle.mig_base.specs.declared.circuit.Gate.TheVariants.{Never}
use Rattle.mig_base.specs.declared.circuit.Register.{Register}
use Rattle.mig_base.specs.declared.plans.Plan.{Plan}
use Rattle.mig_base.specs.declared.plans.PlanChip.{PlanChip}
use Rattle.mig_base.specs.Among.{Among}
use Rattle.mig_base.specs.DeviceTables.{is_22, is_v8}
use Rattle.mig_base.specs.Given.{IsGiven}
use Rattle.board.specs.Joined.{Joined, equations_of}
use Rattle.new_board.specs.declared.types.PlacedUnit.{PlacedUnit}
use Rattle.new_board.specs.NewChip.{NewChip, enable_net, first_of, first_registered, gate_products, is_registered_unit, placed_clock, placed_register}
use Rattle.new_board.proofs.Columns.{first-among}
use Rattle.new_board.proofs.Items.{among-unfilter}
use Rattle.plan_text.specs.PlanText.{IsPlan}
use Rattle.plans.specs.declared.placing.Placing.{Placing}
use Rattle.plans.specs.Placings.{absorbed_units, old, placings_on}
use Rattle.plans.specs.Forms.{IsNewChip, has_register}
use Rattle.plans.specs.UnitBreaches.{are_many, breaks_reset, clock_of, is_never, register_clock, row_gate, share_row}
use Rattle.plans.specs.Breaches.{HasNoBreach}
use Rattle.fitted_cells.proofs.FitChips.{placing-of}
use Rattle.planned_boards.specs.Planned.{SharesChip, SuitsV8}
use Rattle.planned_boards.proofs.EnablePins.{v8-no-22}
use Rattle.kept_plans.proofs.FirstUnits.{first-both, register-there, same-register}
use Rattle.kept_plans.proofs.SharedRules.{ArePair, clock-kept, enable-kept, gate-row, never-gate, not-false, or-parts, phase-kept, preset-kept, reset-kept}

some-there : {T : Type 0} (o : Option T) → is_none o ≡ false → (x : T) × (o ≡ Some x)
some-there None e = cc
some-there (Some x) e = (x, refl)

module _ (b : Joined) (p : Plan) (given : IsGiven b.net b.chips) (plan : IsPlan p) (none : HasNoBreach b p) (c : PlanChip) (there : Among c p.chips) (chip : NewChip) (is : IsNewChip b p c chip) where
  -- the first registered unit, and each other one, with their places in the plan
  pub pair-of : (x first : PlacedUnit) → Among x chip.units → is_registered_unit (equations_of b) x ≡ true → first_registered (equations_of b) chip ≡ Some first →
      (y : Placing) × ((f : Placing) × ArePair b p c y f x first)
  pair-of x first on registered is_first =
      let y = placing-of b p given plan none c there chip is x on in
      let f = first-both b (absorbed_units b p) (placings_on b p c.name) chip.units is.units first is_first in
      let kept = among-unfilter (is_registered_unit (equations_of b)) first chip.units (first-among (filter (is_registered_unit (equations_of b)) chip.units) first is_first) in (
        y.0,
        (
          f.0,
          record {
            among = y.2.placed.among;
            chip = y.2.placed.chip;
            rows = y.2.rows;
            registered = same-register b (absorbed_units b p) y.0 x y.2.rows ∙ registered;
            is_first = ap (λ (d : PlanChip). first_of (filter (λ (z : Placing). has_register b z.unit) (placings_on b p d.name))) y.2.placed.chip ∙ f.1;
            first_rows = f.2;
            first_registered = same-register b (absorbed_units b p) f.0 first f.2 ∙ kept.1;
          },
        ),
      )

  -- the clock of a registered unit
  clock-is : (x : PlacedUnit) → is_registered_unit (equations_of b) x ≡ true → placed_clock (equations_of b) x ≡ Some (clock_of b x.unit)
  clock-is x registered = at (placed_register (equations_of b) x) refl registered
    where
      at : (o : Option ℕ) → placed_register (equations_of b) x ≡ o → is_some o ≡ true → placed_clock (equations_of b) x ≡ Some (clock_of b x.unit)
      at None e h = cc
      at (Some k) e h =
          let r = register-there b given x.unit k e in
          ap (λ (o : Option ℕ). option_map (λ (q : Register). q.clock) (option_and_then (slice_get (equations_of b).registers) o)) e
          ∙ ap (option_map (λ (q : Register). q.clock)) r.1
          ∙ sym (ap (λ (o : Option Register). Some (register_clock o)) r.1)
          ∙ sym (ap (λ (o : Option ℕ). Some (register_clock (option_and_then (slice_get (equations_of b).registers) o))) e)

  shared-row : (q : Bool) (g h : Gate) → q ≡ true → breaks_reset q (gate_products g) (gate_products h) ≡ false → share_row (gate_products g) (gate_products h) ≡ true
  shared-row false g h e k = cc
  shared-row true g h e k = not-false (share_row (gate_products g) (gate_products h)) (or-parts (are_many (gate_products g)) (not (share_row (gate_products g) (gate_products h))) k).1

  no-row : (q : Bool) (g h : Gate) → q ≡ false → breaks_reset q (gate_products g) (gate_products h) ≡ false → g ≡ Never
  no-row true g h e k = cc
  no-row false g h e k = never-gate g (not-false (is_never (gate_products g)) (or-parts (are_many (gate_products g)) (not (is_never (gate_products g))) k).1)

  pub shares-chip : (x first : PlacedUnit) → Among x chip.units → is_registered_unit (equations_of b) x ≡ true → first_registered (equations_of b) chip ≡ Some first → SharesChip b chip first x
  shares-chip x first on registered is_first =
      let q = pair-of x first on registered is_first in
      let pair = q.1.1 in
      let kept = among-unfilter (is_registered_unit (equations_of b)) first chip.units (first-among (filter (is_registered_unit (equations_of b)) chip.units) first is_first) in
      let kind = λ (e : is_22 chip.kind ≡ true). ap is_22 (sym is.kind) ∙ e in
      record {
        clock = clock-is x registered
            ∙ ap (λ (n : ℕ). Some n) (ap (clock_of b) pair.rows.unit ∙ clock-kept b p none c q.0 q.1.0 x first pair ∙ ap (clock_of b) (sym pair.first_rows.unit))
            ∙ sym (clock-is first kept.1);
        reset = λ e. shared-row (is_22 c.kind) x.reset first.reset (kind e) (reset-kept b p none c q.0 q.1.0 x first pair);
        preset = λ e. shared-row (is_22 c.kind) x.preset first.preset (kind e) (preset-kept b p none c q.0 q.1.0 x first pair);
      }

  pub suits-v8 : (x first : PlacedUnit) → Among x chip.units → is_v8 chip.kind ≡ true → is_registered_unit (equations_of b) x ≡ true → first_registered (equations_of b) chip ≡ Some first → SuitsV8 b first x
  suits-v8 x first on v8 registered is_first =
      let q = pair-of x first on registered is_first in
      let pair = q.1.1 in
      let kept = among-unfilter (is_registered_unit (equations_of b)) first chip.units (first-among (filter (is_registered_unit (equations_of b)) chip.units) first is_first) in
      let s = pair-of first first kept.0 kept.1 is_first in
      let kind : is_v8 c.kind ≡ true = ap is_v8 (sym is.kind) ∙ v8 in
      let old_kind : is_22 c.kind ≡ false = v8-no-22 c.kind kind in
      let own = or-parts (is_none (enable_net (old b) (row_gate (gate_products x.enable)))) (not (share_row (gate_products x.enable) (gate_products first.enable))) (enable-kept b p none c q.0 q.1.0 x first pair kind) in
      let its = or-parts (is_none (enable_net (old b) (row_gate (gate_products first.enable)))) (not (share_row (gate_products first.enable) (gate_products first.enable))) (enable-kept b p none c s.0 s.1.0 first first s.1.1 kind) in
      let net = some-there (enable_net (old b) (row_gate (gate_products first.enable))) its.0 in
      record {
        reset = no-row (is_22 c.kind) x.reset first.reset old_kind (reset-kept b p none c q.0 q.1.0 x first pair);
        preset = no-row (is_22 c.kind) x.preset first.preset old_kind (preset-kept b p none c q.0 q.1.0 x first pair);
        phase = phase-kept b p none c q.0 q.1.0 x first pair kind;
        enable = not-false (share_row (gate_products x.enable) (gate_products first.enable)) own.1;
        net = net.0;
        pin = ap (enable_net (old b)) (sym (gate-row first.enable)) ∙ net.1;
      }
