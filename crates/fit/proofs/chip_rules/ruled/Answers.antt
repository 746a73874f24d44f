use Rattle.std.proofs.Common.{◌≡◌, List, map, subst, ap, ◌∙◌, inr}
use Rattle.new_board.specs.NewChip.{OldBoard}
use Rattle.new_board.specs.NewFiles.{fitted}
use Rattle.plans.specs.FirstOf.{FirstOf, NoneOf, GivesFirst, Says}
use Rattle.plans.specs.Placings.{old}
use Rattle.fit.specs.declared.marks.ChipMarks.{ChipMarks}
use Rattle.fit.specs.NewChips.{no_input}
use Rattle.fit.specs.FullRows.{marks_of, full_row}
use Rattle.fit.proofs.chip_rules.ruled.Goals as goal

pub returns-in-Some-first_full_row : goal.returns-in-Some-first_full_row
returns-in-Some-first_full_row c =
    let marks : c.as_slice.result.now ≡ map (marks_of (old c.args.board.now)) c.args.chips.now =
    c.as_slice.ensures.value ∙ c.in_ok-built.ensures.marks ∙ ap (λ (b : OldBoard). map (marks_of b) c.args.chips.now) c.requires in
    inr (
      subst (GivesFirst (Says (no_input c.args.board.now)) c.args.chips.now) c.in_default.is c.in_ok-breach.ensures,
      subst (λ (ms : List ChipMarks). FirstOf (Says (full_row ms)) c.args.placed.now c.in-Some-first_full_row.breach) marks c.in-Some-first_full_row.ensures,
    )

pub returns : goal.returns
returns c =
    let marks : c.as_slice.result.now ≡ map (marks_of (old c.args.board.now)) c.args.chips.now =
    c.as_slice.ensures.value ∙ c.in_ok-built.ensures.marks ∙ ap (λ (b : OldBoard). map (marks_of b) c.args.chips.now) c.requires in
    record {
      served = subst (GivesFirst (Says (no_input c.args.board.now)) c.args.chips.now) c.in_default.is c.in_ok-breach.ensures;
      spare = subst (λ (ms : List ChipMarks). NoneOf (Says (full_row ms)) c.args.placed.now) marks c.in_default-first_full_row.ensures;
      are = c.in_ok-built.ensures.built ∙ ap (λ (b : OldBoard). map (fitted b) c.args.chips.now) c.requires;
    }
