use Rattle.std.proofs.Common.{◌+◌, ◌++◌, List, length, drop, filter, arith, ap, ◌∙◌}
use Rattle.mig_base.specs.declared.nets.ChipLine.{ChipLine}
use Rattle.mig_base.specs.Boards.{At, pins_from}
use Rattle.equations.proofs.PrivatePins.{no_line, no_line-pins}
use Rattle.equations.proofs.Steps.{goes-on}
use Rattle.equations.proofs.net_numbers.privates_of.Goals as goal

pub loop-chip-preserved : goal.loop-chip-preserved
loop-chip-preserved c =
    let chip = c.loop-chip.chip in
    let net = c.args.lines.now in
    let left = λ (lines : List ChipLine). filter (no_line net.pins) (pins_from chip lines) in
    ap (λ (pins : List At). pins ++ filter (no_line net.pins) (pins_from (chip + 1) (drop (chip + 1) net.chips))) c.in_ok-push_privates.ensures
    ∙ goes-on left c.loop-chip.privates.items _ _ net.chips chip c.line-item.result (omega (arith, ap length c.chips-line-items.ensures)) (rw c.chips-line-items.ensures at c.line-item.is) (no_line-pins net.pins chip c.line-item.result (drop (chip + 1) net.chips))
    ∙ c.loop-chip.invariant
