use Rattle.std.proofs.Common.{Some}
use Rattle.plans.specs.FirstOf.{Says}
use Rattle.plan_lines.proofs.FirstSteps.{said-gives, from-here, from-end}
use Rattle.fit.specs.FullRows.{full_row}
use Rattle.fit.proofs.marks.first_full_row.Goals as goal

pub returns-in-Some : goal.returns-in-Some
returns-in-Some c =
    from-here (Says (full_row c.args.chips.now)) c.args.placed.now c.loop-unit.unit-index c.unit-item.result c.in-Some.breach c.loop-unit-test.true c.unit-item.is
    (said-gives (full_row c.args.chips.now) c.unit-item.result (Some c.in-Some.breach) c.in-Some.ensures) c.loop-unit.invariant

pub returns : goal.returns
returns c = from-end (Says (full_row c.args.chips.now)) c.args.placed.now c.loop-unit.unit-index c.loop-unit-test.false c.loop-unit.invariant
