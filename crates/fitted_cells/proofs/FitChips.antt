-- The new chips of a plan without breach have cells that some fuses make.
use Rattle.std.proofs.Common.{ℕ, ◌≡◌, Bool, true, false, Option, Some, None, refl, sym, ap, ◌∙◌, subst, inl, inr, ◌⊎◌}
use Rattle.std.specs.Prelude.{slice_get}
use Rattle.std.specs.List.{filter}
use Rattle.std.proofs.lemmas.Bool.{and_parts}
use Rattle.mig_base.specs.Among.{Among}
use Rattle.mig_base.specs.declared.kinds.Kind.{Kind}
use Rattle.mig_base.specs.declared.kinds.Mode.{Mode}
use Rattle.mig_base.specs.declared.kinds.Mode.TheVariants.{Simple, Complex}
use Rattle.mig_base.specs.declared.circuit.Gate.{Gate}
use Rattle.mig_base.specs.declared.circuit.Gate.TheVariants.{Never, Product}
use Rattle.mig_base.specs.declared.plans.Plan.{Plan}
use Rattle.mig_base.specs.declared.plans.PlanChip.{PlanChip}
use Rattle.mig_base.specs.declared.plans.Part.TheVariants.{Enable}
use Rattle.mig_base.specs.declared.plans.Breach.TheVariants as breach
use Rattle.mig_base.specs.DeviceTables.{is_22, is_gal, cell_pins}
use Rattle.mig_base.specs.Given.{IsGiven}
use Rattle.mig_base.specs.Names.{is_name}
use Rattle.mig_base.specs.WellFormed.{has_mode, IsWellFormed}
use Rattle.structure.specs.Pure.{always_enabled}
use Rattle.board.specs.Joined.{Joined, equations_of}
use Rattle.board.specs.Variables.{var_of}
use Rattle.new_board.specs.declared.types.PlacedUnit.{PlacedUnit}
use Rattle.new_board.specs.NewChip.{NewChip, unit_on, is_registered_unit, first_registered, gate_products}
use Rattle.new_board.specs.NewFiles.{new_cells, has_full_row, reset_gate, preset_gate}
use Rattle.new_board.specs.InputPins.{first_unserved}
use Rattle.mig_base.specs.declared.circuit.Read.{Read}
use Rattle.new_board.proofs.Items.{all-pass, among-unfilter}
use Rattle.new_board.proofs.Columns.{first-among}
use Rattle.new_board.proofs.Reading.{EnableApart}
use Rattle.new_board.proofs.WellMade.{IsFitChip, IsFitUnit, chip-well}
use Rattle.plan_text.specs.PlanText.{IsPlan, is_plan_chip}
use Rattle.plans.specs.declared.placing.Placing.{Placing}
use Rattle.plans.specs.Placings.{old, placings, placings_on, absorbed_units}
use Rattle.plans.specs.Forms.{Products, AreRows, IsNewChip, has_register, room_of}
use Rattle.plans.specs.UnitBreaches.{first_on, breaks_reset, GivesReset, is_out_of_mode}
use Rattle.plans.specs.ChipBreaches.{GivesNoInput, GivesFullRow, unit_is_full}
use Rattle.plans.specs.Breaches.{WrongReset, NoInput, FullRow, all_rules, RuleGives, HasNoBreach}
use Rattle.plans.proofs.Firsts.{none-each}
use Rattle.fit.proofs.FirstUnits.{first-own}
use Rattle.fit.proofs.EachLaws.{each-some}
use Rattle.fitted_cells.proofs.OwnReads.{ReadOwn, own-form, own-control}
use Rattle.fitted_cells.proofs.UnitsOnPins.{each-back, pins-apart, own-pin, placed-on}
use Rattle.fitted_cells.proofs.FitUnits.{IsPlacedUnit, fit-by, in-mode, register-is}
use Rattle.fitted_cells.proofs.ReadableRows.{unit-own, row-readable, enable-apart}

-- a unit of a new chip
abbrev pub HasPlacing : Joined → Plan → PlanChip → NewChip → PlacedUnit → Type 0
HasPlacing b p c chip x = (y : Placing) × Among y (placings_on b p c.name) × IsPlacedUnit b p c chip y x

module _ (b : Joined) (p : Plan) (given : IsGiven b.net b.chips) (plan : IsPlan p) (none : HasNoBreach b p) (c : PlanChip) (there : Among c p.chips) (chip : NewChip) (is : IsNewChip b p c chip) where
  pub chip-said : (is_name c.name ≡ true) × ((is_gal c.kind ≡ true) × (has_mode c.kind c.mode ≡ true))
  chip-said = let all = and_parts _ _ (all-pass is_plan_chip c p.chips plan.named_chips there) in let both = and_parts _ _ all.0 in (both.0, (both.1, all.1))

  pub placing-of : (x : PlacedUnit) → Among x chip.units → HasPlacing b p c chip x
  placing-of x a =
      let y = each-back (AreRows b (absorbed_units b p)) (placings_on b p c.name) chip.units x is.units a in
      (y.0, y.1, record { placed = placed-on b p c y.0 none there y.1; rows = y.2; is_new = is; gal = chip-said.1.0; mode = chip-said.1.1 })

  pub served : first_unserved (old b) chip ≡ None
  served = at (first_unserved (old b) chip) refl
    where
      at : (o : Option Read) → first_unserved (old b) chip ≡ o → o ≡ None
      at None e = refl
      at (Some v) e = absurd (none-each (GivesNoInput b p) p.chips (none-each (RuleGives b p) all_rules none NoInput
          (inr (inr (inr (inr (inr (inr (inr (inr (inr (inr (inr (inr (inr (inr (inr (inr (inl refl)))))))))))))))))) c there (breach.NoInput c.name (var_of b.chips v))
          (record { chip = chip; is_new = is; variable = v; first = e; names = refl }))

  own-rows : (x : PlacedUnit) (y : Placing) → AreRows b (absorbed_units b p) y x → ReadOwn (equations_of b) x.terms × ReadOwn (equations_of b) (gate_products x.enable)
  own-rows x y rows = (own-form b (absorbed_units b p) y.unit (room_of b y) (record { low = x.low; terms = x.terms }) rows.logic, own-control b (absorbed_units b p) y.unit Enable (gate_products x.enable) rows.enable)

  on-pin : (x : PlacedUnit) → Among x chip.units → unit_on chip.units x.pin ≡ Some x
  on-pin x a = own-pin b (absorbed_units b p) (placings_on b p c.name) chip.units x (pins-apart b p c.name given none) is.units a

  not-full : (x : PlacedUnit) → Among x chip.units → (y : Placing) → IsPlacedUnit b p c chip y x → has_full_row (old b) chip x ≡ false
  not-full x a y at = by (has_full_row (old b) chip x) refl
    where
      by : (q : Bool) → has_full_row (old b) chip x ≡ q → q ≡ false
      by false e = refl
      by true e = absurd (none-each (GivesFullRow b p) (placings b p) (none-each (RuleGives b p) all_rules none FullRow
          (inr (inr (inr (inr (inr (inr (inr (inr (inr (inr (inr (inr (inr (inr (inr (inr (inr (inl refl))))))))))))))))))) y at.placed.among (breach.FullRow y.name)
          (record {
            chip = chip;
            is_new = subst (λ (d : PlanChip). IsNewChip b p d chip) (sym at.placed.chip) is;
            full = ap (λ (q : ℕ). unit_is_full (old b) chip (unit_on chip.units q)) (sym at.rows.pin) ∙ ap (unit_is_full (old b) chip) (on-pin x a) ∙ e;
            names = refl;
          }))

  -- a registered unit isn't in simple or complex mode
  out-of-mode : (x : PlacedUnit) → first_registered (equations_of b) chip ≡ Some x → chip.mode ≡ Simple ⊎ chip.mode ≡ Complex → ⊥
  out-of-mode x e m =
      let kept = among-unfilter (is_registered_unit (equations_of b)) x chip.units (first-among _ x e) in
      let y = placing-of x kept.0 in
      let always = always_enabled (slice_get (equations_of b).units y.0.unit) in
      let out : is_out_of_mode chip.mode true always ≡ false =
      ap (λ (q : Bool). is_out_of_mode chip.mode q always) (sym (register-is b p none c chip y.0 x y.2 ∙ kept.1)) ∙ in-mode b p none c chip y.0 x y.2 in
      at always m out
    where
      at : (q : Bool) → chip.mode ≡ Simple ⊎ chip.mode ≡ Complex → is_out_of_mode chip.mode true q ≡ false → ⊥
      at q (inl s) h = let wrong : true ≡ false = sym (ap (λ (k : Mode). is_out_of_mode k true q) s) ∙ h in cc
      at q (inr s) h = let wrong : true ≡ false = sym (ap (λ (k : Mode). is_out_of_mode k true q) s) ∙ h in cc

  pub apart : EnableApart (old b) chip
  apart = enable-apart (old b) chip ((λ i. has_mode (is.kind i) (is.mode i)) ∙ chip-said.1.1) out-of-mode

  pub fit-unit : (x : PlacedUnit) → Among x chip.units → IsFitUnit (old b) chip x
  fit-unit x a =
      let y = placing-of x a in
      let own = own-rows x y.0 y.2.rows in
      record {
        cell = subst (λ (q : ℕ). Among q (cell_pins chip.kind)) (sym y.2.rows.pin) (subst (λ (k : Kind). Among y.0.pin (cell_pins k)) (sym is.kind) y.2.placed.cell);
        on = on-pin x a;
        form = fit-by b p none c chip y.0 x y.2;
        readable = λ lits row. row-readable (old b) chip x lits apart served (unit-own (equations_of b) chip x own.0 own.1) a row;
        not_full = not-full x a y.0 y.2;
      }

  -- the first registered unit of the chip has a first one of its plan
  first-row : (y f : Placing) → first_on b p y ≡ Some f → y.chip ≡ c → (z : PlacedUnit) × AreRows b (absorbed_units b p) f z
  first-row y f e same =
      let a = (among-unfilter (λ z. has_register b z.unit) f (placings_on b p y.chip.name) (first-among (filter (λ z. has_register b z.unit) (placings_on b p y.chip.name)) f e)).0 in
      each-some (AreRows b (absorbed_units b p)) (placings_on b p c.name) chip.units f is.units (subst (λ (d : PlanChip). Among f (placings_on b p d.name)) same a)

  -- a reset or preset on a V8 would be a breach
  gate-never : (g : Gate) (firsts : Products) → (breaks_reset false (gate_products g) firsts ≡ true → ⊥) → g ≡ Never
  gate-never Never firsts h = refl
  gate-never (Product lits) firsts h = absurd (h refl)

  unbroken : (y : Placing) → Among y (placings b p) → (GivesReset b p y (breach.Reset y.name) → ⊥)
  unbroken y a h = none-each (GivesReset b p) (placings b p) (none-each (RuleGives b p) all_rules none WrongReset
      (inr (inr (inr (inr (inr (inr (inr (inr (inr (inr (inr (inr (inr (inl refl))))))))))))))) y a (breach.Reset y.name) h

  both-never : (x : PlacedUnit) → first_registered (equations_of b) chip ≡ Some x → is_22 chip.kind ≡ false → (x.reset ≡ Never) × (x.preset ≡ Never)
  both-never x e on =
      let kept = among-unfilter (is_registered_unit (equations_of b)) x chip.units (first-among _ x e) in
      let y = placing-of x kept.0 in
      let registered = register-is b p none c chip y.0 x y.2 ∙ kept.1 in
      let f = first-own b p y.0 y.2.placed.among registered in
      let z = first-row y.0 f.0 f.1 y.2.placed.chip in
      let not_22 : is_22 y.0.chip.kind ≡ false = ap (λ (d : PlanChip). is_22 d.kind) y.2.placed.chip ∙ ap is_22 (sym is.kind) ∙ on in
      let breaks = λ (ps firsts : Products). λ (h : breaks_reset false ps firsts ≡ true). ap (λ (q : Bool). breaks_reset q ps firsts) not_22 ∙ h in (
        gate-never x.reset (gate_products z.0.reset) (λ h. unbroken y.0 y.2.placed.among (record {
          registered = registered;
          breaks = inl (record {
            both = record { products = gate_products x.reset; own = y.2.rows.reset; first = f.0; is_first = f.1; firsts = gate_products z.0.reset; of_first = z.1.reset };
            breaks = breaks (gate_products x.reset) (gate_products z.0.reset) h;
          });
          names = refl;
        })),
        gate-never x.preset (gate_products z.0.preset) (λ h. unbroken y.0 y.2.placed.among (record {
          registered = registered;
          breaks = inr (record {
            both = record { products = gate_products x.preset; own = y.2.rows.preset; first = f.0; is_first = f.1; firsts = gate_products z.0.preset; of_first = z.1.preset };
            breaks = breaks (gate_products x.preset) (gate_products z.0.preset) h;
          });
          names = refl;
        })),
      )

  controls : is_22 chip.kind ≡ false → (o : Option PlacedUnit) → first_registered (equations_of b) chip ≡ o → (reset_gate o ≡ Never) × (preset_gate o ≡ Never)
  controls on None e = (refl, refl)
  controls on (Some x) e = both-never x e on

  pub fit-chip : IsFitChip (old b) chip
  fit-chip = record {
    gal = ap is_gal is.kind ∙ chip-said.1.0;
    mode = (λ i. has_mode (is.kind i) (is.mode i)) ∙ chip-said.1.1;
    units = fit-unit;
    no_reset = λ on. (controls on (first_registered (equations_of b) chip) refl).0;
    no_preset = λ on. (controls on (first_registered (equations_of b) chip) refl).1;
  }

  pub well : IsWellFormed (new_cells (old b) chip)
  well = chip-well (old b) chip fit-chip
