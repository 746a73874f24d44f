-- The placed units of a plan without breach fit their cells.
use Rattle.std.proofs.Common.{ℕ, ◌≡◌, ◌≤◌, Bool, true, false, not, cond, ◌&&◌, length, Option, Some, None, is_some, refl, sym, ap, ◌∙◌, subst, inl, inr}
use Rattle.std.specs.Prelude.{slice_get}
use Rattle.mig_base.specs.Among.{Among}
use Rattle.mig_base.specs.declared.kinds.Mode.{Mode}
use Rattle.mig_base.specs.declared.kinds.Mode.TheVariants.{Simple}
use Rattle.mig_base.specs.declared.cells.Form.TheVariants as form
use Rattle.mig_base.specs.declared.plans.Plan.{Plan}
use Rattle.mig_base.specs.declared.plans.PlanChip.{PlanChip}
use Rattle.mig_base.specs.declared.plans.Breach.TheVariants as breach
use Rattle.mig_base.specs.declared.plans.Part.TheVariants.{Logic}
use Rattle.mig_base.specs.DeviceTables.{is_22, is_v8, is_gal}
use Rattle.mig_base.specs.WellFormed.{has_mode, is_simple, most_terms}
use Rattle.structure.specs.Pure.{always_enabled}
use Rattle.board.specs.Joined.{Joined, equations_of}
use Rattle.new_board.specs.declared.types.PlacedUnit.{PlacedUnit}
use Rattle.new_board.specs.NewChip.{NewChip, unit_register, placed_register}
use Rattle.new_board.specs.NewFiles.{pin_low_of}
use Rattle.new_board.proofs.WellMade.{IsFitBy}
use Rattle.plans.specs.FirstOf.{Says}
use Rattle.plans.specs.declared.placing.Placing.{Placing}
use Rattle.plans.specs.Placings.{old, placings, absorbed_units}
use Rattle.plans.specs.Forms.{AreRows, IsNewChip, LogicForm, Fits, Try, reads_absorbed, old_low, has_register, room_of, tries}
use Rattle.plans.specs.UnitBreaches.{is_out_of_mode, wrong_mode, wrong_phase}
use Rattle.plans.specs.Breaches.{WrongMode, WrongPhase, all_rules, RuleGives, HasNoBreach}
use Rattle.plans.proofs.Firsts.{none-each}
use Rattle.fitted_cells.proofs.OwnReads.{form-fits}
use Rattle.fitted_cells.proofs.PlanRules.{fails}
use Rattle.fitted_cells.proofs.UnitsOnPins.{IsPlacedOn}
use Rattle.fitted_cells.proofs.UnitForms.{takes-register, takes-inversions, never-inverts, always-enable}

-- a placed unit with its rows on its new chip
pub record IsPlacedUnit (b : Joined) (p : Plan) (c : PlanChip) (chip : NewChip) (y : Placing) (x : PlacedUnit) : Type 0 where
  pub placed : IsPlacedOn b p c y
  pub rows : AreRows b (absorbed_units b p) y x
  pub is_new : IsNewChip b p c chip
  pub gal : is_gal c.kind ≡ true
  pub mode : has_mode c.kind c.mode ≡ true

module _ (b : Joined) (p : Plan) (none : HasNoBreach b p) (c : PlanChip) (chip : NewChip) (y : Placing) (x : PlacedUnit) (at : IsPlacedUnit b p c chip y x) where
  kind-is : y.chip.kind ≡ chip.kind
  kind-is = ap (λ (d : PlanChip). d.kind) at.placed.chip ∙ sym at.is_new.kind

  mode-is : y.chip.mode ≡ chip.mode
  mode-is = ap (λ (d : PlanChip). d.mode) at.placed.chip ∙ sym at.is_new.mode

  gal-is : is_gal chip.kind ≡ true
  gal-is = ap is_gal at.is_new.kind ∙ at.gal

  has-mode-is : has_mode chip.kind chip.mode ≡ true
  has-mode-is = (λ i. has_mode (at.is_new.kind i) (at.is_new.mode i)) ∙ at.mode

  pub register-is : has_register b y.unit ≡ is_some (placed_register (equations_of b) x)
  register-is = ap (has_register b) (sym at.rows.unit)

  pub in-mode : is_out_of_mode chip.mode (has_register b y.unit) (always_enabled (slice_get (equations_of b).units y.unit)) ≡ false
  in-mode =
      ap (λ (m : Mode). is_out_of_mode m (has_register b y.unit) (always_enabled (slice_get (equations_of b).units y.unit))) (sym mode-is)
      ∙ fails (is_out_of_mode y.chip.mode (has_register b y.unit) (always_enabled (slice_get (equations_of b).units y.unit))) (breach.Mode y.name)
      (λ z e. none-each (Says (wrong_mode b)) (placings b p) (none-each (RuleGives b p) all_rules none WrongMode (inr (inr (inr (inr (inr (inr (inr (inr (inl refl)))))))))) y at.placed.among z e)

  in-phase : (has_register b y.unit && is_v8 y.chip.kind && not (pin_low_of (slice_get (equations_of b).units y.unit))) ≡ false
  in-phase =
      fails (has_register b y.unit && is_v8 y.chip.kind && not (pin_low_of (slice_get (equations_of b).units y.unit))) (breach.Phase y.name)
      (λ z e. none-each (Says (wrong_phase b)) (placings b p) (none-each (RuleGives b p) all_rules none WrongPhase (inr (inr (inr (inr (inr (inr (inr (inr (inr (inr (inl refl)))))))))))) y at.placed.among z e)

  abbrev logic : LogicForm
  logic = record { low = x.low; terms = x.terms }

  tried : (t : Try) × Among t (tries b (absorbed_units b p) y.unit (room_of b y)) × Fits b (absorbed_units b p) y.unit (room_of b y) t logic
  tried = form-fits b (absorbed_units b p) y.unit (room_of b y) (tries b (absorbed_units b p) y.unit (room_of b y)) logic at.rows.logic

  few : (q : Bool) → has_register b y.unit ≡ q → length x.terms ≤ most_terms chip.kind chip.mode x.pin (cond q form.Reg form.Comb)
  few q e = subst (λ (n : ℕ). length x.terms ≤ n) (λ i. most_terms (kind-is i) (mode-is i) (sym at.rows.pin i) (cond (e i) form.Reg form.Comb)) tried.2.few

  by : (o : Option ℕ) → placed_register (equations_of b) x ≡ o → IsFitBy (old b) chip x o
  by None is =
      let bare : has_register b y.unit ≡ false = register-is ∙ ap (λ (o : Option ℕ). is_some o) is in (
        few false bare,
        λ simple.
            let always = always-in chip.mode (always_enabled (slice_get (equations_of b).units y.unit)) simple (ap (λ (q : Bool). is_out_of_mode chip.mode q (always_enabled (slice_get (equations_of b).units y.unit))) (sym bare) ∙ in-mode) in
            always-enable b (absorbed_units b p) y.unit x.enable (ap (unit_register (equations_of b)) (sym at.rows.unit) ∙ is) always at.rows.enable,
      )
    where
      always-in : (m : Mode) (q : Bool) → is_simple m ≡ true → is_out_of_mode m false q ≡ false → q ≡ true
      always-in Simple true e h = refl
      always-in Simple false e h = cc
      always-in _ q e h = cc
  by (Some k) is =
      let there : has_register b y.unit ≡ true = register-is ∙ ap (λ (o : Option ℕ). is_some o) is in (
        few true there,
        takes-register chip.kind chip.mode x.pin (always_enabled (slice_get (equations_of b).units y.unit)) gal-is has-mode-is
            (ap (λ (q : Bool). is_out_of_mode chip.mode q (always_enabled (slice_get (equations_of b).units y.unit))) (sym there) ∙ in-mode),
        takes-inversions chip.kind x.low (pin_low_of (slice_get (equations_of b).units x.unit)) gal-is
            (λ e. tried.2.inversion
            ∙ never-inverts (reads_absorbed b (absorbed_units b p) y.unit Logic) (old_low (equations_of b) y.unit) (not (is_22 y.chip.kind && has_register b y.unit)) tried.0
            ((λ i. not (is_22 (kind-is i) && there i)) ∙ ap (λ (q : Bool). not (q && true)) e) tried.1)
            ((λ i. sym there i && (is_v8 (sym kind-is i) && not (pin_low_of (slice_get (equations_of b).units (at.rows.unit i))))) ∙ shift (has_register b y.unit) (is_v8 y.chip.kind) (not (pin_low_of (slice_get (equations_of b).units y.unit))) in-phase),
      )
    where
      shift : (p q r : Bool) → (p && q && r) ≡ false → (p && (q && r)) ≡ false
      shift true q r e = e
      shift false q r e = refl

  pub fit-by : IsFitBy (old b) chip x (placed_register (equations_of b) x)
  fit-by = by (placed_register (equations_of b) x) refl
