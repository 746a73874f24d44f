use Rattle.std.proofs.Common.{List, ap, ◌∙◌}
use Rattle.mig_base.specs.declared.plans.PlanLine.{PlanLine}
use Rattle.plans.specs.Placings.{is_absorbed_in}
use Rattle.plan_lines.proofs.PlacedSteps.{absorbed-more, absorbed-all}
use Rattle.plan_lines.proofs.placed.absorbed_units.Goals as goal

pub loop-number-preserved : goal.loop-number-preserved
loop-number-preserved c =
    absorbed-more c.args.board.now c.args.plan.now.lines c.units-units.result.now c.loop-number.number c.index-units-number.result _ _ _ _ c.units-units.ensures.units c.loop-number-test.true c.index-units-number.is
    (c.is_absorbed-absorbed.ensures ∙ ap (λ (ls : List PlanLine). is_absorbed_in ls c.index-units-number.result.name) c.items.ensures) c.in_ok-keep_number.ensures c.loop-number.invariant

pub returns : goal.returns
returns c = absorbed-all c.args.board.now c.args.plan.now.lines c.units-units.result.now c.loop-number.number _ _ c.units-units.ensures.units c.loop-number-test.false c.loop-number.invariant
