use Rattle.std.proofs.Common.{◌+◌, ◌++◌, List, drop, arith, refl, ap, ◌∙◌}
use Rattle.mig_base.specs.Boards.{ChipUnit, units_from}
use Rattle.equations.proofs.Steps.{goes-on}
use Rattle.equations.proofs.units.units_of.Goals as goal

pub loop-chip-preserved : goal.loop-chip-preserved
loop-chip-preserved c =
    let chip = c.loop-chip.chip in
    ap (λ (units : List ChipUnit). units ++ units_from (chip + 1) (drop (chip + 1) c.args.chips.now)) c.in_ok-push_units.ensures
    ∙ goes-on (units_from chip) c.loop-chip.units.items _ _ c.args.chips.now chip c.index-chips-chip.result (omega arith) c.index-chips-chip.is refl
    ∙ c.loop-chip.invariant
