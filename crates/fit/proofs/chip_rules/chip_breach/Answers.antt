use Rattle.std.proofs.Common.{◌≡◌, List, length, map, sym, subst, ap, ◌∙◌}
use Rattle.new_board.specs.NewChip.{NewChip}
use Rattle.plans.specs.declared.placing.Placing.{Placing}
use Rattle.plans.specs.Placings.{placings, absorbed_units}
use Rattle.plans.specs.Forms.{AreRows}
use Rattle.fit.specs.NewChips.{chip_with}
use Rattle.fit.specs.ChipAnswers.{IsRuled}
use Rattle.fit.proofs.EachLaws.{each-long}
use Rattle.fit.proofs.NewChipLaws.{chip_by}
use Rattle.fit.proofs.ChipSteps.{chips-answer}
use Rattle.fit.proofs.chip_rules.chip_breach.Goals as goal

pub new_chips-requires : goal.new_chips-requires
new_chips-requires c =
    sym (ap length c.requires.placed ∙ each-long (AreRows c.args.board.now (absorbed_units c.args.board.now c.args.plan.now)) (placings c.args.board.now c.args.plan.now) c.args.rows.now c.requires.rows)

pub returns : goal.returns
returns c =
    let b = c.args.board.now in
    let p = c.args.plan.now in
    let rows = c.args.rows.now in
    let chips : c.as_slice.result.now ≡ map (chip_by b p rows) p.chips =
    c.as_slice.ensures.value ∙ c.in_ok-chips.ensures ∙ ap (map (chip_with c.args.placed.now rows)) c.items.ensures ∙ ap (λ (xs : List Placing). map (chip_with xs rows) p.chips) c.requires.placed in
    chips-answer b p rows c.requires.rows c.in_ok-answer.answer
    (subst (λ (cs : List NewChip). IsRuled b cs (placings b p) c.in_ok-answer.answer) chips
    (subst (λ (xs : List Placing). IsRuled b c.as_slice.result.now xs c.in_ok-answer.answer) c.requires.placed c.in_ok-answer.ensures))
