-- What is found of new chips that are made of the rows of placed units is what the rules on chips come to.
use Rattle.std.proofs.Common.{List, map, inl, inr}
use Rattle.mig_base.specs.declared.plans.Plan.{Plan}
use Rattle.board.specs.Joined.{Joined}
use Rattle.new_board.specs.declared.types.PlacedUnit.{PlacedUnit}
use Rattle.new_board.specs.NewChip.{NewChip}
use Rattle.plans.specs.FirstOf.{NoneOf, Says}
use Rattle.plans.specs.Placings.{numbered_units, placings}
use Rattle.plans.specs.Breaches.{RuleGives}
use Rattle.plans.specs.ChipBreaches.{GivesNoInput, GivesFullRow}
use Rattle.fit.specs.declared.chip_rules.ChipRules.{ChipRules}
use Rattle.fit.specs.declared.chip_rules.ChipRules.TheVariants.{Breach, Fitted}
use Rattle.fit.specs.NewChips.{no_input}
use Rattle.fit.specs.ChipAnswers.{chip_rules, GivesMarked, IsRuled, IsChipAnswer}
use Rattle.fit.proofs.Listed.{first-same, none-same, first-through, none-through}
use Rattle.fit.proofs.NewChipLaws.{HasRows, chip_by, new-chips, input-to, input-from}
use Rattle.fit.proofs.FullRowLaws.{IsPlaced, placed-named, row-to, row-from}

-- the new chips of a plan
abbrev chips_by : Joined → Plan → List PlacedUnit → List NewChip
chips_by b p rows = map (chip_by b p rows) p.chips

pub chips-answer : (b : Joined) (p : Plan) (rows : List PlacedUnit) → HasRows b p rows → (r : ChipRules) → IsRuled b (chips_by b p rows) (placings b p) r → IsChipAnswer b p r
chips-answer b p rows h (Breach x) (inl k) = inl (first-through (chip_by b p rows) (Says (no_input b)) (GivesNoInput b p) (input-to b p rows h) (input-from b p rows h) p.chips x k)
chips-answer b p rows h (Breach x) (inr k) =
    inr (
      none-through (chip_by b p rows) (Says (no_input b)) (GivesNoInput b p) (input-to b p rows h) (input-from b p rows h) p.chips k.0,
      inl (first-same (IsPlaced p) (GivesMarked b (chips_by b p rows)) (GivesFullRow b p) (row-to b p rows h) (row-from b p rows h) (placings b p) (placed-named p (numbered_units b)) x k.1),
    )
chips-answer b p rows h (Fitted built) k = record {
  none = free;
  fitted = record { chips = chips_by b p rows; are_new = new-chips b p rows h; are = k.are };
}
  where
    served : NoneOf (GivesNoInput b p) p.chips
    served = none-through (chip_by b p rows) (Says (no_input b)) (GivesNoInput b p) (input-to b p rows h) (input-from b p rows h) p.chips k.served

    spare : NoneOf (GivesFullRow b p) (placings b p)
    spare = none-same (IsPlaced p) (GivesMarked b (chips_by b p rows)) (GivesFullRow b p) (row-to b p rows h) (row-from b p rows h) (placings b p) (placed-named p (numbered_units b)) k.spare

    free : NoneOf (RuleGives b p) chip_rules
    free x (inl g) = served x g
    free x (inr (n, inl g)) = spare x g
    free x (inr (n, inr g)) = absurd g.1
