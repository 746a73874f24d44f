use Rattle.std.proofs.Common.{ap, ◌∙◌, sym, Bool, Some}
use Rattle.mig_base.specs.declared.plans.Breach.TheVariants.{ChipTwice}
use Rattle.new_board.specs.NewChip.{when}
use Rattle.plans.specs.FirstOf.{Says}
use Rattle.plans.specs.LineBreaches.{chip_twice}
use Rattle.plan_lines.proofs.FirstSteps.{behind-here, behind-end}
use Rattle.plan_lines.proofs.chips.first_chip_twice.Goals as goal

pub returns-then-any_named : goal.returns-then-any_named
returns-then-any_named c =
    behind-here (Says chip_twice) c.args.chips.now c.loop-i.i c.index-chips-i.result _ c.loop-i-test.true c.index-chips-i.is
    (ap (λ (t : Bool). when t (Some (ChipTwice c.index-chips-i.result.name))) (sym c.any_named.ensures ∙ c.if-any_named.true)) c.loop-i.invariant

pub returns : goal.returns
returns c = behind-end (Says chip_twice) c.args.chips.now c.loop-i.i c.loop-i-test.false c.loop-i.invariant
