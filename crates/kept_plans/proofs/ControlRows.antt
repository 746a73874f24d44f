-- The pins of a new chip read its reset and preset rows.
use Rattle.std.proofs.Common.{◌≡◌, ◌⊎◌, Bool, true, false, cond, List, [], Option, Some, None, refl, inl, inr}
use Rattle.std.specs.List.{filter, flat_map, list_any}
use Rattle.mig_base.specs.declared.circuit.Literal.{Literal}
use Rattle.mig_base.specs.declared.circuit.Circuit.{Circuit}
use Rattle.mig_base.specs.declared.plans.Plan.{Plan}
use Rattle.mig_base.specs.declared.plans.PlanChip.{PlanChip}
use Rattle.mig_base.specs.declared.plans.Part.TheVariants.{Reset, Preset}
use Rattle.mig_base.specs.Among.{Among}
use Rattle.mig_base.specs.DeviceTables.{is_22}
use Rattle.mig_base.specs.Given.{IsGiven}
use Rattle.mig_base.specs.Reads.{IsNode}
use Rattle.mig_base.specs.Structure.{all_variables, same_read}
use Rattle.mig_base.proofs.Amongs.{among-any, among-right, among-split, node-among}
use Rattle.mig_base.proofs.ReadLaws.{same-read}
use Rattle.board.specs.Joined.{Joined, equations_of}
use Rattle.new_board.specs.declared.types.PlacedUnit.{PlacedUnit}
use Rattle.new_board.specs.NewChip.{NewChip, OldBoard, chip_products, control_products, controls_of, first_registered, gate_products, is_registered_unit, needed_variables, unit_products}
use Rattle.new_board.specs.InputPins.{first_unserved}
use Rattle.new_board.proofs.Columns.{IsReadable, first-among}
use Rattle.new_board.proofs.Items.{among-filter, among-unfilter}
use Rattle.new_board.proofs.Reading.{EnableApart}
use Rattle.new_board.proofs.Serving.{served-all, served-readable}
use Rattle.plan_text.specs.PlanText.{IsPlan}
use Rattle.plans.specs.Placings.{absorbed_units, old}
use Rattle.plans.specs.Forms.{IsNewChip}
use Rattle.plans.specs.Breaches.{HasNoBreach}
use Rattle.fitted_cells.proofs.FitChips.{apart, placing-of, served}
use Rattle.fitted_cells.proofs.OwnReads.{IsOwn, ReadOwn, own-control}

-- a variable of a reset or preset row is needed
control-needed : (c : Circuit) (chip : NewChip) (lits : List Literal) (y : Literal) → Among lits (control_products c chip) → Among y lits → IsNode c y.source → Among y.source (needed_variables c chip)
control-needed c chip lits y row lit node =
    among-filter (λ v. list_any (λ ls. list_any (λ z. same_read z.source v) ls) (chip_products c chip)) y.source (all_variables c) (node-among c y.source node)
    (among-any (λ ls. list_any (λ z. same_read z.source y.source) ls) lits (chip_products c chip)
    (among-right lits (flat_map (unit_products c chip) chip.units) (control_products c chip) row)
    (among-any (λ z. same_read z.source y.source) y lits lit (same-read y.source)))

control-readable : (b : OldBoard) (chip : NewChip) (lits : List Literal) → EnableApart b chip → first_unserved b chip ≡ None → ReadOwn b.circuit (control_products b.circuit chip) →
    Among lits (control_products b.circuit chip) → IsReadable b chip lits
control-readable b chip lits apart served own row = record {
  each = λ y a.
      let o = own lits row y a in
      served-readable b chip y.source apart o.own (served-all b chip served y.source (control-needed b.circuit chip lits y row a o.node));
}

module _ (b : Joined) (p : Plan) (given : IsGiven b.net b.chips) (plan : IsPlan p) (none : HasNoBreach b p) (c : PlanChip) (there : Among c p.chips) (chip : NewChip) (is : IsNewChip b p c chip) where
  abbrev a : Circuit
  a = equations_of b

  own-controls : (o : Option PlacedUnit) → first_registered a chip ≡ o → ReadOwn a (controls_of o)
  own-controls None e = λ lits m. absurd m
  own-controls (Some x) e = λ lits m. by lits (among-split lits (gate_products x.reset) (gate_products x.preset) m)
    where
      on : Among x chip.units
      on = (among-unfilter (is_registered_unit a) x chip.units (first-among (filter (is_registered_unit a) chip.units) x e)).0

      by : (lits : List Literal) → Among lits (gate_products x.reset) ⊎ Among lits (gate_products x.preset) → (z : Literal) → Among z lits → IsOwn a z.source
      by lits (inl h) = let y = placing-of b p given plan none c there chip is x on in own-control b (absorbed_units b p) y.0.unit Reset (gate_products x.reset) y.2.rows.reset lits h
      by lits (inr h) = let y = placing-of b p given plan none c there chip is x on in own-control b (absorbed_units b p) y.0.unit Preset (gate_products x.preset) y.2.rows.preset lits h

  own-products : (q : Bool) → ReadOwn a (cond q (controls_of (first_registered a chip)) [])
  own-products true = own-controls (first_registered a chip) refl
  own-products false = λ lits m. absurd m

  pub controls-readable : (t : List Literal) → Among t (control_products a chip) → IsReadable (old b) chip t
  controls-readable t m = control-readable (old b) chip t (apart b p given plan none c there chip is) (served b p given plan none c there chip is) (own-products (is_22 chip.kind)) m
