use Rattle.std.proofs.Common.{◌+◌, ◌++◌, List, drop, arith, refl, ap, ◌∙◌}
use Rattle.mig_base.specs.declared.nets.PinLine.{PinLine}
use Rattle.equations.proofs.Steps.{goes-on}
use Rattle.new_board.specs.NewFiles.{new_pins_from}
use Rattle.new_wirings.proofs.new_wires.new_pins.Goals as goal

pub loop-number-preserved : goal.loop-number-preserved
loop-number-preserved c =
    let number = c.loop-number.number in
    ap (λ (pins : List PinLine). pins ++ new_pins_from c.args.kept.now (number + 1) (drop (number + 1) c.args.chips.now)) c.in_ok-push_pins.ensures
    ∙ goes-on (new_pins_from c.args.kept.now number) c.loop-number.pins.items _ _ c.args.chips.now number c.index-chips-number.result (omega arith) c.index-chips-number.is refl
    ∙ c.loop-number.invariant
