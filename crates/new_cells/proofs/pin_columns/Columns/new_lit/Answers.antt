use Rattle.std.proofs.Common.{◌≡◌, List, map, ap, ◌∙◌, rules}
use Rattle.mig_base.specs.DeviceTables.{pair_pins}
use Rattle.new_cells.specs.PinColumns.{PinColumns, pin_columns, lit_among}
use Rattle.new_cells.proofs.CodeColumns.{among-pins}
use Rattle.new_cells.proofs.pin_columns.Columns.new_lit.Goals as goal

pub returns : goal.returns
returns c =
    let b = c.args.self.now.nets.old.now in
    let chip = c.args.self.now.nets.chip.now in
    let pins : c.args.self.now.by_pin.items ≡ map (pin_columns b chip) (pair_pins chip.kind chip.mode) = search rules in
    c.first_lit.ensures ∙ ap (λ (cs : List PinColumns). lit_among cs c.args.lit) (c.as_slice.ensures.value ∙ pins) ∙ among-pins b chip c.args.lit (pair_pins chip.kind chip.mode)
