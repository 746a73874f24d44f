use Rattle.std.proofs.Common.{List, [], None, Some, sym, subst}
use Rattle.mig_base.specs.declared.plans.PlanLine.{PlanLine}
use Rattle.plans.specs.FirstOf.{GivesFirst, behind}
use Rattle.plan_lines.specs.Statements.{LineGives}
use Rattle.plan_lines.proofs.FirstSteps.{FromBehind, behind-here, behind-end}
use Rattle.plan_lines.proofs.lines.first_line.Goals as goal

pub returns-in-Some : goal.returns-in-Some
returns-in-Some c =
    let gives = LineGives c.args.board.now c.args.plan.now c.args.rule in
    subst (λ (ls : List PlanLine). GivesFirst gives (behind [] ls) (Some c.in-Some.breach)) c.items-lines.ensures
    (behind-here gives c.items-lines.result.now c.loop-i.i c.index-lines-i.result c.in-Some.breach c.loop-i-test.true c.index-lines-i.is c.in-Some.ensures
    (subst (λ (ls : List PlanLine). FromBehind gives ls c.loop-i.i) (sym c.items-lines.ensures) c.loop-i.invariant))

pub returns : goal.returns
returns c =
    let gives = LineGives c.args.board.now c.args.plan.now c.args.rule in
    subst (λ (ls : List PlanLine). GivesFirst gives (behind [] ls) None) c.items-lines.ensures
    (behind-end gives c.items-lines.result.now c.loop-i.i c.loop-i-test.false (subst (λ (ls : List PlanLine). FromBehind gives ls c.loop-i.i) (sym c.items-lines.ensures) c.loop-i.invariant))
