use Rattle.std.proofs.Common.{Some, sym, ◌∙◌}
use Rattle.plans.specs.FirstOf.{Says}
use Rattle.plan_lines.proofs.FirstSteps.{said-gives, from-here, from-end}
use Rattle.fit.specs.NewChips.{no_input}
use Rattle.fit.proofs.chip_inputs.first_no_input.Goals as goal

pub returns-in-Some : goal.returns-in-Some
returns-in-Some c =
    from-here (Says (no_input c.args.board.now)) c.args.chips.now c.loop-chip.chip-index c.chip-item.result c.in-Some.breach c.loop-chip-test.true c.chip-item.is
    (said-gives (no_input c.args.board.now) c.chip-item.result (Some c.in-Some.breach) (sym c.in-Some.is ∙ c.in_ok-breach.ensures)) c.loop-chip.invariant

pub returns : goal.returns
returns c = from-end (Says (no_input c.args.board.now)) c.args.chips.now c.loop-chip.chip-index c.loop-chip-test.false c.loop-chip.invariant
