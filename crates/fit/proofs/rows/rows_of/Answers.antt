use Rattle.std.proofs.Common.{List, length, sym, ap, ◌∙◌, subst}
use Rattle.new_board.specs.declared.types.PlacedUnit.{PlacedUnit}
use Rattle.plans.specs.FirstOf.{AreEach}
use Rattle.plans.specs.declared.placing.Placing.{Placing}
use Rattle.plans.specs.Placings.{placings, absorbed_units}
use Rattle.plans.specs.Forms.{AreRows}
use Rattle.forms.proofs.CoveredLaws.{ok-map}
use Rattle.fit.specs.Parts.{AreParts}
use Rattle.fit.specs.Rows.{rows_by}
use Rattle.fit.proofs.EachLaws.{each-long}
use Rattle.fit.proofs.RowLaws.{all-clear, each-row}
use Rattle.fit.proofs.rows.rows_of.Goals as goal

pub clear_rows-requires-clause-count : goal.clear_rows-requires-clause-count
clear_rows-requires-clause-count c =
    let b = c.args.placed.now.board.now in
    let p = c.args.placed.now.plan.now in
    ap length c.args.placed.now.are ∙ each-long (AreParts b (absorbed_units b p)) (placings b p) c.args.parts.now c.requires.parts

pub clear_rows-requires-clause-clear : goal.clear_rows-requires-clause-clear
clear_rows-requires-clause-clear c = all-clear c.args.placed.now.board.now c.args.placed.now.plan.now c.args.parts.now c.requires.parts c.requires.free

pub returns : goal.returns
returns c =
    let b = c.args.placed.now.board.now in
    let p = c.args.placed.now.plan.now in
    ok-map _ _ c.clear_rows.result (λ rows e. subst (λ (rs : List PlacedUnit). AreEach (AreRows b (absorbed_units b p)) (placings b p) rs)
    (sym (e ∙ ap (λ (us : List Placing). rows_by us c.args.parts.now) c.args.placed.now.are))
    (each-row b (absorbed_units b p) (placings b p) c.args.parts.now c.requires.parts (all-clear b p c.args.parts.now c.requires.parts c.requires.free))) c.clear_rows.ensures
