use Rattle.std.proofs.Common.{◌∙◌, string_bytes}
use Rattle.net_text.proofs.WrittenSteps.{chip-in, pin-step}
use Rattle.net_text.proofs.writing.write_pins.Goals as goal

pub bounds-chips-line : goal.bounds-chips-line
bounds-chips-line c = chip-in c.args.net.now c.requires _ _ c.items-line-items.ensures c.items-chips.ensures c.loop-line.line-index _ c.loop-line-test.true

pub loop-line-preserved : goal.loop-line-preserved
loop-line-preserved c =
    pin-step c.args.net.now c.requires _ _ _ c.items-line-items.ensures c.items-chips.ensures c.items-nets.ensures c.loop-line.line-index (record { chip = 0; pin = 0; net = 0 }) c.index-chips-line.result
    c.text-chip.result.now c.as_str.result.now c.net_name.result.now _ _ (string_bytes c.write_line.new.text)
    c.loop-line-test.true c.text-chip.ensures (c.as_str.ensures.value ∙ c.in_ok-pin.ensures.ok) c.net_name.ensures c.loop-line.invariant c.in_ok-write_line.ensures
