-- A register of the new board takes what its old one takes.
use Rattle.std.proofs.Common.{ℕ, ◌≡◌, Bool, true, false, cond, List, [], ◌++◌, Option, Some, is_some, refl, sym, ap, ◌∙◌, subst}
use Rattle.std.specs.List.{AllByRecursion, slice_get}
use Rattle.mig_base.specs.declared.circuit.Literal.{Literal}
use Rattle.mig_base.specs.declared.circuit.Gate.{Gate}
use Rattle.mig_base.specs.declared.circuit.Gate.TheVariants.{Never}
use Rattle.mig_base.specs.declared.circuit.Gives.{Gives}
use Rattle.mig_base.specs.declared.circuit.Register.{Register}
use Rattle.mig_base.specs.declared.circuit.Circuit.{Circuit}
use Rattle.mig_base.specs.Among.{Among}
use Rattle.mig_base.specs.DeviceTables.{is_22}
use Rattle.mig_base.specs.Reads.{IsNode}
use Rattle.mig_base.specs.Values.{inverted, row_reads, sum_reads}
use Rattle.mig_base.proofs.Amongs.{among-left, among-right}
use Rattle.board.specs.Joined.{Joined, equations_of}
use Rattle.joiner.specs.Joined.{logic_low, register_low}
use Rattle.new_board.specs.NewChip.{NewChip, control_products, controls_of, first_registered, gate_products, is_registered_unit, products_by, unit_products}
use Rattle.new_board.specs.NewFiles.{preset_gate, reset_gate}
use Rattle.new_board.specs.declared.types.PlacedUnit.{PlacedUnit}
use Rattle.new_board.proofs.Columns.{IsReadable}
use Rattle.plans.specs.Placings.{old}
use Rattle.plans.specs.Fitting.{new_board}
use Rattle.plans.specs.UnitBreaches.{share_row}
use Rattle.fitting_levels.specs.NodeValues.{gate_by, terms_by}
use Rattle.placed_boards.specs.Places.{IsPart}
use Rattle.placed_boards.specs.Rows.{AreRows}
use Rattle.placed_boards.proofs.RowParts.{gate-part, terms-part}
use Rattle.joined_rows.specs.PartRows.{logic_terms, preset_terms, presetting_terms, register_terms, reset_terms, resetting_terms}
use Rattle.new_circuits.specs.NewNumbers.{numbers_of}
use Rattle.planned_boards.specs.Planned.{HasPartRows, SharesChip, SuitsV8}
use Rattle.planned_boards.proofs.NewRows.{gate-rows, terms-seen}
use Rattle.planned_boards.proofs.SharedRows.{shared-rows}
use Rattle.planned_parts.specs.KeptChips.{AreKeptChips}
use Rattle.planned_parts.proofs.NewRegisters.{IsNewRegister}
use Rattle.planned_parts.proofs.RegisterRows.{made, preset-nodes, registers, reset-nodes, row, row-seen, term-nodes}
use Rattle.planned_parts.proofs.Units.{v8-kind}

module _ (b : Joined) (absorbed : List ℕ) (chips : List NewChip) (kept : AreKeptChips b absorbed chips) (k : ℕ) (r : IsNewRegister b absorbed chips k) where
  abbrev a : Circuit
  a = equations_of b

  abbrev x : PlacedUnit
  x = r.new.unit

  abbrev rows : HasPartRows b absorbed r.new.unit
  rows = r.kept.planned.units r.new.unit r.on

  abbrev now : Register
  now = made b absorbed chips kept k r

  registered : is_registered_unit a x ≡ true
  registered = ap (λ (o : Option ℕ). is_some o) r.is

  shares : SharesChip b r.new.chip r.first x
  shares = r.kept.planned.shares x r.first r.on registered r.is_first

  suits : is_22 r.new.chip.kind ≡ false → SuitsV8 b r.first x
  suits e = r.kept.planned.suits x r.first r.on (v8-kind r.new.chip.kind r.kept.fit.gal e) registered r.is_first

  -- D

  logic-gives : AreRows a absorbed (λ f. inverted (register_low (slice_get a.registers r.old)) (terms_by f (register_terms (slice_get a.registers r.old)))) (sum_reads (register_terms (slice_get a.registers r.old))) x.terms x.low
  logic-gives = subst (λ (g : Gives). AreRows a absorbed (λ f. inverted (logic_low a g rows.driver.low) (terms_by f (logic_terms a g))) (sum_reads (logic_terms a g)) x.terms x.low) r.gives
      (record { same = λ f h. rows.logic.same f h; named = λ w m. rows.logic.named w m })

  logic-rows : AreRows a absorbed (λ f. inverted r.register.low (terms_by f r.register.terms)) (sum_reads r.register.terms) x.terms x.low
  logic-rows = subst (λ (o : Option Register). AreRows a absorbed (λ f. inverted (register_low o) (terms_by f (register_terms o))) (sum_reads (register_terms o)) x.terms x.low) r.found logic-gives

  pub term-readable : (t : List Literal) → Among t x.terms → IsReadable (old b) r.new.chip t
  term-readable t m =
      let products : unit_products a r.new.chip x ≡ x.terms ++ cond (is_22 r.new.chip.kind) (gate_products x.enable) [] = ap (λ (o : Option ℕ). products_by (is_22 r.new.chip.kind) o x) r.is in
      (r.kept.fit.units x r.on).readable t (subst (Among t) (sym products) (among-left t x.terms (cond (is_22 r.new.chip.kind) (gate_products x.enable) []) m))

  pub logic-part : IsPart a absorbed (numbers_of b chips) (λ f. inverted r.register.low (terms_by f r.register.terms)) (sum_reads r.register.terms) (λ f. inverted now.low (terms_by f now.terms)) (sum_reads now.terms)
  logic-part = terms-part a absorbed (numbers_of b chips) (λ f. inverted r.register.low (terms_by f r.register.terms)) (sum_reads r.register.terms) x.terms x.low now.terms logic-rows
      (terms-seen b chips r.unit.chip r.new.chip r.new.found (registers b absorbed chips kept k r) x.terms term-readable (term-nodes b absorbed chips kept k r))

  -- the pins read the reset and the preset row
  controls-among : (t : List Literal) → is_22 r.new.chip.kind ≡ true → Among t (controls_of (Some r.first)) → Among t (control_products a r.new.chip)
  controls-among t e m = subst (λ (q : Bool). Among t (cond q (controls_of (first_registered a r.new.chip)) [])) (sym e) (subst (λ (o : Option PlacedUnit). Among t (controls_of o)) (sym r.is_first) m)

  control-readable : (firsts : Gate) → (is_22 r.new.chip.kind ≡ false → firsts ≡ Never) → (t : List Literal) → (Among t (gate_products firsts) → Among t (controls_of (Some r.first))) →
      Among t (gate_products firsts) → IsReadable (old b) r.new.chip t
  control-readable firsts never t within m = at (is_22 r.new.chip.kind) refl
    where
      none : Among t [] → IsReadable (old b) r.new.chip t
      none h = absurd h

      at : (q : Bool) → is_22 r.new.chip.kind ≡ q → IsReadable (old b) r.new.chip t
      at true e = r.kept.controls t (controls-among t e (within m))
      at false e = none (subst (λ (h : Gate). Among t (gate_products h)) (never e) m)

  no-reset : is_22 r.new.chip.kind ≡ false → r.first.reset ≡ Never
  no-reset e = sym (ap reset_gate r.is_first) ∙ r.kept.fit.no_reset e

  no-preset : is_22 r.new.chip.kind ≡ false → r.first.preset ≡ Never
  no-preset e = sym (ap preset_gate r.is_first) ∙ r.kept.fit.no_preset e

  pub reset-readable : (t : List Literal) → Among t (gate_products r.first.reset) → IsReadable (old b) r.new.chip t
  reset-readable t m = control-readable r.first.reset no-reset t (among-left t (gate_products r.first.reset) (gate_products r.first.preset)) m

  pub preset-readable : (t : List Literal) → Among t (gate_products r.first.preset) → IsReadable (old b) r.new.chip t
  preset-readable t m = control-readable r.first.preset no-preset t (among-right t (gate_products r.first.reset) (gate_products r.first.preset)) m

  -- a reset or preset row: that of the first registered unit
  control-part : (g own firsts : Gate) → AreRows a absorbed (λ f. gate_by f g) (row_reads g) (gate_products own) false →
      (is_22 r.new.chip.kind ≡ true → share_row (gate_products own) (gate_products firsts) ≡ true) → (is_22 r.new.chip.kind ≡ false → own ≡ firsts) →
      ((t : List Literal) → Among t (gate_products firsts) → IsReadable (old b) r.new.chip t) →
      AllByRecursion (IsNode (equations_of (new_board b chips))) (row_reads (row b absorbed chips kept k r firsts)) →
      IsPart a absorbed (numbers_of b chips) (λ f. gate_by f g) (row_reads g) (λ f. gate_by f (row b absorbed chips kept k r firsts)) (row_reads (row b absorbed chips kept k r firsts))
  control-part g own firsts own_rows shared same readable nodes =
      gate-part a absorbed (numbers_of b chips) (λ f. gate_by f g) (row_reads g) (gate_products firsts) (row b absorbed chips kept k r firsts) (at (is_22 r.new.chip.kind) refl) (row-seen b absorbed chips kept k r firsts readable nodes)
    where
      at : (q : Bool) → is_22 r.new.chip.kind ≡ q → AreRows a absorbed (λ f. gate_by f g) (row_reads g) (gate_products firsts) false
      at true e = shared-rows a absorbed (λ f. gate_by f g) (row_reads g) (gate_products own) (gate_products firsts) (shared e) own_rows
      at false e = subst (λ (h : Gate). AreRows a absorbed (λ f. gate_by f g) (row_reads g) (gate_products h) false) (same e) own_rows

  -- reset

  reset-gives : AreRows a absorbed (λ f. terms_by f (reset_terms (slice_get a.registers r.old))) (sum_reads (reset_terms (slice_get a.registers r.old))) (gate_products x.reset) false
  reset-gives = subst (λ (g : Gives). AreRows a absorbed (λ f. terms_by f (resetting_terms a g)) (sum_reads (resetting_terms a g)) (gate_products x.reset) false) r.gives
      (record { same = λ f h. rows.reset.same f h; named = λ w m. rows.reset.named w m })

  pub reset-part : IsPart a absorbed (numbers_of b chips) (λ f. gate_by f r.register.reset) (row_reads r.register.reset) (λ f. gate_by f now.reset) (row_reads now.reset)
  reset-part = control-part r.register.reset x.reset r.first.reset
      (gate-rows a absorbed r.register.reset (gate_products x.reset)
      (subst (λ (o : Option Register). AreRows a absorbed (λ f. terms_by f (reset_terms o)) (sum_reads (reset_terms o)) (gate_products x.reset) false) r.found reset-gives))
      shares.reset (λ e. (suits e).reset ∙ sym (no-reset e)) reset-readable
      (reset-nodes b absorbed chips kept k r)

  -- preset

  preset-gives : AreRows a absorbed (λ f. terms_by f (preset_terms (slice_get a.registers r.old))) (sum_reads (preset_terms (slice_get a.registers r.old))) (gate_products x.preset) false
  preset-gives = subst (λ (g : Gives). AreRows a absorbed (λ f. terms_by f (presetting_terms a g)) (sum_reads (presetting_terms a g)) (gate_products x.preset) false) r.gives
      (record { same = λ f h. rows.preset.same f h; named = λ w m. rows.preset.named w m })

  pub preset-part : IsPart a absorbed (numbers_of b chips) (λ f. gate_by f r.register.preset) (row_reads r.register.preset) (λ f. gate_by f now.preset) (row_reads now.preset)
  preset-part = control-part r.register.preset x.preset r.first.preset
      (gate-rows a absorbed r.register.preset (gate_products x.preset)
      (subst (λ (o : Option Register). AreRows a absorbed (λ f. terms_by f (preset_terms o)) (sum_reads (preset_terms o)) (gate_products x.preset) false) r.found preset-gives))
      shares.preset (λ e. (suits e).preset ∙ sym (no-preset e)) preset-readable
      (preset-nodes b absorbed chips kept k r)
