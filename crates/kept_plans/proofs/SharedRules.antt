-- What the registered units of a chip share, where a plan has no breach.
use Rattle.std.proofs.Common.{ℕ, ◌≡◌, Bool, true, false, not, ◌&&◌, ◌||◌, Some, refl, sym, ap, ◌∙◌, inl, inr, eqb, eqb-true}
use Rattle.std.specs.List.{slice_get}
use Rattle.mig_base.specs.declared.circuit.Gate.{Gate}
use Rattle.mig_base.specs.declared.circuit.Gate.TheVariants.{Never, Product}
use Rattle.mig_base.specs.declared.plans.Plan.{Plan}
use Rattle.mig_base.specs.declared.plans.PlanChip.{PlanChip}
use Rattle.mig_base.specs.declared.plans.Breach.TheVariants as breach
use Rattle.mig_base.specs.Among.{Among}
use Rattle.mig_base.specs.DeviceTables.{is_22, is_v8}
use Rattle.board.specs.Joined.{Joined, equations_of}
use Rattle.new_board.specs.declared.types.PlacedUnit.{PlacedUnit}
use Rattle.new_board.specs.NewChip.{gate_products}
use Rattle.new_board.specs.NewFiles.{pin_low_of}
use Rattle.plans.specs.FirstOf.{NoneOf, Says}
use Rattle.plans.specs.declared.placing.Placing.{Placing}
use Rattle.plans.specs.Placings.{absorbed_units, placings}
use Rattle.plans.specs.Forms.{AreRows, has_register}
use Rattle.plans.specs.UnitBreaches.{GivesEnable, GivesReset, breaks_pin, breaks_reset, clock_of, first_on, has_other_clock, is_never, row_gate, wrong_clock, wrong_phase}
use Rattle.plans.specs.Breaches.{HasNoBreach, WrongClock, WrongEnable, WrongPhase, WrongReset}
use Rattle.plans.proofs.BreachLaws.{none-unbroken}
use Rattle.plans.proofs.Firsts.{none-each}
use Rattle.fitted_cells.proofs.PlanRules.{fails}

pub gate-row : (g : Gate) → row_gate (gate_products g) ≡ g
gate-row Never = refl
gate-row (Product lits) = refl

pub or-parts : (p q : Bool) → (p || q) ≡ false → (p ≡ false) × (q ≡ false)
or-parts true q e = cc
or-parts false q e = (refl, e)

pub not-false : (q : Bool) → not q ≡ false → q ≡ true
not-false true e = refl
not-false false e = cc

is-false : (q : Bool) → (q ≡ true → ⊥) → q ≡ false
is-false true none = absurd (none refl)
is-false false none = refl

pub never-gate : (g : Gate) → is_never (gate_products g) ≡ true → g ≡ Never
never-gate Never e = refl
never-gate (Product lits) e = cc

-- two placed units of a chip, the second one its first registered one
pub record ArePair (b : Joined) (p : Plan) (c : PlanChip) (y f : Placing) (x first : PlacedUnit) : Type 0 where
  pub among : Among y (placings b p)
  pub chip : y.chip ≡ c
  pub rows : AreRows b (absorbed_units b p) y x
  pub registered : has_register b y.unit ≡ true
  pub is_first : first_on b p y ≡ Some f
  pub first_rows : AreRows b (absorbed_units b p) f first
  pub first_registered : has_register b f.unit ≡ true

-- no rule on placed units gives anything of a placed unit
module _ (b : Joined) (p : Plan) (none : HasNoBreach b p) (c : PlanChip) (y f : Placing) (x first : PlacedUnit) (pair : ArePair b p c y f x first) where
  -- reset and preset

  pub reset-kept : breaks_reset (is_22 c.kind) (gate_products x.reset) (gate_products first.reset) ≡ false
  reset-kept = is-false _ (λ e. none-each (GivesReset b p) (placings b p) (none-unbroken-list) y pair.among (breach.Reset y.name) (record {
    registered = pair.registered;
    breaks = inl (record {
      both = record { products = gate_products x.reset; own = pair.rows.reset; first = f; is_first = pair.is_first; firsts = gate_products first.reset; of_first = pair.first_rows.reset };
      breaks = ap (λ (d : PlanChip). breaks_reset (is_22 d.kind) (gate_products x.reset) (gate_products first.reset)) pair.chip ∙ e;
    });
    names = refl;
  }))
    where
      none-unbroken-list : NoneOf (GivesReset b p) (placings b p)
      none-unbroken-list = λ z h. none-unbroken b p none WrongReset z h

  pub preset-kept : breaks_reset (is_22 c.kind) (gate_products x.preset) (gate_products first.preset) ≡ false
  preset-kept = is-false _ (λ e. none-each (GivesReset b p) (placings b p) (none-unbroken-list) y pair.among (breach.Reset y.name) (record {
    registered = pair.registered;
    breaks = inr (record {
      both = record { products = gate_products x.preset; own = pair.rows.preset; first = f; is_first = pair.is_first; firsts = gate_products first.preset; of_first = pair.first_rows.preset };
      breaks = ap (λ (d : PlanChip). breaks_reset (is_22 d.kind) (gate_products x.preset) (gate_products first.preset)) pair.chip ∙ e;
    });
    names = refl;
  }))
    where
      none-unbroken-list : NoneOf (GivesReset b p) (placings b p)
      none-unbroken-list = λ z h. none-unbroken b p none WrongReset z h

  -- clocks

  pub clock-kept : clock_of b y.unit ≡ clock_of b f.unit
  clock-kept =
      let says : (has_register b y.unit && has_other_clock b y.unit (first_on b p y)) ≡ false =
      fails (has_register b y.unit && has_other_clock b y.unit (first_on b p y)) (breach.Clock y.name)
      (λ z e. none-each (Says (wrong_clock b p)) (placings b p) (λ w h. none-unbroken b p none WrongClock w h) y pair.among z e) in
      let same : not (eqb (clock_of b y.unit) (clock_of b f.unit)) ≡ false =
      ap (has_other_clock b y.unit) (sym pair.is_first) ∙ ap (λ (q : Bool). q && has_other_clock b y.unit (first_on b p y)) (sym pair.registered) ∙ says in
      eqb-true (clock_of b y.unit) (clock_of b f.unit) (not-false (eqb (clock_of b y.unit) (clock_of b f.unit)) same)

  -- the phase of a V8

  pub phase-kept : is_v8 c.kind ≡ true → pin_low_of (slice_get (equations_of b).units x.unit) ≡ true
  phase-kept v8 =
      let says : (has_register b y.unit && is_v8 y.chip.kind && not (pin_low_of (slice_get (equations_of b).units y.unit))) ≡ false =
      fails (has_register b y.unit && is_v8 y.chip.kind && not (pin_low_of (slice_get (equations_of b).units y.unit))) (breach.Phase y.name)
      (λ z e. none-each (Says (wrong_phase b)) (placings b p) (λ w h. none-unbroken b p none WrongPhase w h) y pair.among z e) in
      let kind : is_v8 y.chip.kind ≡ true = ap (λ (d : PlanChip). is_v8 d.kind) pair.chip ∙ v8 in
      ap (λ (u : ℕ). pin_low_of (slice_get (equations_of b).units u)) pair.rows.unit
      ∙ not-false (pin_low_of (slice_get (equations_of b).units y.unit))
      ((λ i. sym pair.registered i && sym kind i && not (pin_low_of (slice_get (equations_of b).units y.unit))) ∙ says)

  -- the enable of a V8

  pub enable-kept : is_v8 c.kind ≡ true → breaks_pin b (gate_products x.enable) (gate_products first.enable) ≡ false
  enable-kept v8 = is-false _ (λ e. none-each (GivesEnable b p) (placings b p) (none-unbroken-list) y pair.among (breach.Enable y.name) (record {
    breaks = inr (record {
      uses = (λ i. pair.registered i && (ap (λ (d : PlanChip). is_v8 d.kind) pair.chip ∙ v8) i);
      both = record { products = gate_products x.enable; own = pair.rows.enable; first = f; is_first = pair.is_first; firsts = gate_products first.enable; of_first = pair.first_rows.enable };
      breaks = e;
    });
    names = refl;
  }))
    where
      none-unbroken-list : NoneOf (GivesEnable b p) (placings b p)
      none-unbroken-list = λ z h. none-unbroken b p none WrongEnable z h
