-- The placed units of a plan without breach have rows of the parts of their old units.
use Rattle.std.proofs.Common.{ℕ, ◌≡◌, ◌<◌, ◌+◌, List, [], ◌∷◌, length, Option, Some, None, sym, ap, ◌∙◌, inl, inr, arith}
use Rattle.std.specs.List.{slice_get}
use Rattle.std.proofs.lemmas.List.{length-map}
use Rattle.std.proofs.lemmas.Option.{same_Some}
use Rattle.mig_base.specs.declared.circuit.Driver.{Driver}
use Rattle.mig_base.specs.declared.nets.PinName.{PinName}
use Rattle.mig_base.specs.declared.plans.Plan.{Plan}
use Rattle.mig_base.specs.declared.plans.PlanChip.{PlanChip}
use Rattle.mig_base.specs.declared.plans.Part.TheVariants.{Enable, Reset, Preset}
use Rattle.mig_base.specs.Among.{Among}
use Rattle.mig_base.specs.Boards.{driver_of, units_from}
use Rattle.mig_base.specs.Given.{IsGiven}
use Rattle.mig_base.proofs.ListLaws.{item-at}
use Rattle.board.specs.Joined.{Joined, equations_of}
use Rattle.board.specs.NodeNames.{unit_name}
use Rattle.joiner.specs.AbsorbedNets.{AreAbsorbable}
use Rattle.new_board.specs.declared.types.PlacedUnit.{PlacedUnit}
use Rattle.new_board.specs.NewChip.{gate_products}
use Rattle.new_board.proofs.Items.{among-unfilter_map}
use Rattle.plans.specs.declared.placing.Placing.{Placing}
use Rattle.plans.specs.Placings.{absorbed_units, chip_named, numbered_from, numbered_units, placing_at, placing_of, placing_on, placings, target_in, unit_names}
use Rattle.plans.specs.Forms.{AreRows, room_of}
use Rattle.planned_rows.proofs.FormRows.{form-rows, gate-is-rows}
use Rattle.planned_boards.specs.Planned.{HasPartRows}
use Rattle.planned_parts.specs.KeptChips.{ReadsStaying}
use Rattle.kept_plans.proofs.StayingRows.{control-stays, form-stays}

-- the number of a placed unit is that of a unit

on-number : (u : ℕ) (name : PinName) (pin : ℕ) (o : Option PlanChip) (x : Placing) → placing_on u name pin o ≡ Some x → (x.unit ≡ u) × (x.name ≡ name)
on-number u name pin None x e = cc
on-number u name pin (Some chip) x e = (sym (ap (λ (y : Placing). y.unit) (same_Some _ x e)), sym (ap (λ (y : Placing). y.name) (same_Some _ x e)))

at-number : (chips : List PlanChip) (u : ℕ) (name : PinName) (o : Option PinName) (x : Placing) → placing_at chips u name o ≡ Some x → (x.unit ≡ u) × (x.name ≡ name)
at-number chips u name None x e = cc
at-number chips u name (Some t) x e = on-number u name t.pin (chip_named chips t.chip) x e

-- the unit of a placing, by number and name
pub placing-unit : (b : Joined) (p : Plan) (x : Placing) → Among x (placings b p) → (q : ℕ × PinName) × Among q (numbered_units b) × (placing_of p q ≡ Some x) × (x.unit ≡ q.0)
placing-unit b p x a =
    let q = among-unfilter_map (placing_of p) x (numbered_units b) a in
    (q.0, q.1, q.2, (at-number p.chips q.0.0 q.0.1 (target_in p.lines q.0.1) x q.2).0)

pub number-below : (u : ℕ) (names : List PinName) (q : ℕ × PinName) → Among q (numbered_from u names) → q.0 < u + length names
number-below u [] q a = absurd a
number-below u (n ∷ ns) q (inl e) = let same : q.0 ≡ u = ap (λ (r : ℕ × PinName). r.0) e in omega (arith, same)
number-below u (n ∷ ns) q (inr a) = let less : q.0 < u + 1 + length ns = number-below (u + 1) ns q a in omega (arith, less)

pub placed-driver : (b : Joined) (p : Plan) (x : Placing) → Among x (placings b p) → (d : Driver) × (slice_get (equations_of b).units x.unit ≡ Some d)
placed-driver b p x a =
    let q = placing-unit b p x a in
    let less : q.0.0 < 0 + length (unit_names b) = number-below 0 (unit_names b) q.0 q.1 in
    let named : length (unit_names b) ≡ length (units_from 0 b.chips) = length-map (units_from 0 b.chips) (unit_name b.net) in
    let driven : length (equations_of b).units ≡ length (units_from 0 b.chips) = length-map (units_from 0 b.chips) (driver_of b.net (units_from 0 b.chips)) in
    item-at (equations_of b).units x.unit (omega (arith, less, named, driven, q.3))

module _ (b : Joined) (p : Plan) (given : IsGiven b.net b.chips) (absorbable : AreAbsorbable b (absorbed_units b p)) (y : Placing) (there : Among y (placings b p)) (x : PlacedUnit) (rows : AreRows b (absorbed_units b p) y x) where
  abbrev absorbed : List ℕ
  absorbed = absorbed_units b p

  driver : (d : Driver) × (slice_get (equations_of b).units y.unit ≡ Some d)
  driver = placed-driver b p y there

  pub part-rows : HasPartRows b absorbed x
  part-rows = record {
    driver = driver.0;
    found = ap (slice_get (equations_of b).units) rows.unit ∙ driver.1;
    logic = form-rows b absorbed given absorbable y.unit driver.0 driver.1 (room_of b y) (record { low = x.low; terms = x.terms }) rows.logic;
    enable = gate-is-rows b absorbed given absorbable y.unit driver.0 driver.1 Enable (λ e. cc) x.enable rows.enable;
    reset = gate-is-rows b absorbed given absorbable y.unit driver.0 driver.1 Reset (λ e. cc) x.reset rows.reset;
    preset = gate-is-rows b absorbed given absorbable y.unit driver.0 driver.1 Preset (λ e. cc) x.preset rows.preset;
  }

  pub reads-staying : ReadsStaying b absorbed x
  reads-staying = record {
    terms = form-stays b absorbed y.unit (room_of b y) (record { low = x.low; terms = x.terms }) rows.logic;
    enable = control-stays b absorbed y.unit Enable (gate_products x.enable) rows.enable;
    reset = control-stays b absorbed y.unit Reset (gate_products x.reset) rows.reset;
    preset = control-stays b absorbed y.unit Preset (gate_products x.preset) rows.preset;
  }
