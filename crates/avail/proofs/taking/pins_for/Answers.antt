use Rattle.std.proofs.Common.{◌∙◌, ap}
use Rattle.new_board.specs.NewChip.{NewChip}
use Rattle.avail.proofs.CodeInputs.{taking-both}
use Rattle.avail.proofs.taking.pins_for.Goals as goal

pub returns : goal.returns
returns c =
    taking-both c.args.nets.now.old.now c.args.nets.now.chip.now c.args.needed.now _ _ _ _ _ _ _ (ap (λ (k : NewChip). k.name) c.chip.view_is) (c.as_slice.ensures.value ∙ c.in_ok-free.ensures)
    (c.as_slice-2.ensures.value ∙ c.in_ok-variables.ensures) (c.as_slice-3.ensures.value ∙ c.in_ok-variables.ensures) c.new-taken.ensures.items c.in_ok-take_pins.ensures c.in_ok-take_pins-2.ensures
