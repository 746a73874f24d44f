use Rattle.std.proofs.Common.{◌≡◌, ◌<◌, ◌+◌, ◌++◌, ap, ◌∙◌, sym, arith, true, Some, None, List}
use Rattle.std.proofs.lemmas.List.{append-nil}
use Rattle.mig_base.specs.declared.nets.PinLine.{PinLine}
use Rattle.mig_base.specs.DeviceTables.{pins_of}
use Rattle.net_text.specs.Statements.{all_says}
use Rattle.net_text.proofs.Wirings.{pins-more, lines_at_pin}
use Rattle.net_text.proofs.Wholes.{pin-put, not-on-pin}
use Rattle.net_text.proofs.wiring.add_pins.Goals as goal
use Rattle.net_text.proofs.wiring.add_pins.Goals.{then-is_ordinary_pin+in-Some+in_ok-push, then-is_ordinary_pin+in_default, else-is_ordinary_pin}

put : (c : goal.Joined-is_ordinary_pin) → c.if-is_ordinary_pin.wired.items ≡ c.loop-pin.wired.items ++ lines_at_pin (all_says c.args.lines.now) c.args.j c.args.chip.now c.loop-pin.pin
put c =
    let ss = all_says c.args.lines.now in
    let before = c.loop-pin.wired.items in
    elim c.if-is_ordinary_pin.branch [
      | then-is_ordinary_pin+in-Some+in_ok-push w ↦
          cc w.in_ok-push.ensures.items ∙ ap (λ (ls : List PinLine). before ++ ls)
          (sym (pin-put ss c.args.nets.now c.args.j c.args.chip.now c.loop-pin.pin true (Some w.in-Some.net) c.requires.nets_said (sym c.is_ordinary_pin.ensures ∙ w.if-is_ordinary_pin.true) w.in-Some.ensures))
      | then-is_ordinary_pin+in_default w ↦
          (cc) ∙ sym (append-nil before) ∙ ap (λ (ls : List PinLine). before ++ ls)
          (sym (pin-put ss c.args.nets.now c.args.j c.args.chip.now c.loop-pin.pin true None c.requires.nets_said (sym c.is_ordinary_pin.ensures ∙ w.if-is_ordinary_pin.true) w.in_default.ensures))
      | else-is_ordinary_pin w ↦
          (cc) ∙ sym (append-nil before) ∙ ap (λ (ls : List PinLine). before ++ ls) (sym (not-on-pin ss c.args.j c.args.chip.now c.loop-pin.pin (sym c.is_ordinary_pin.ensures ∙ w.if-is_ordinary_pin.false)))
    ]

pub loop-pin-preserved : goal.loop-pin-preserved
loop-pin-preserved c =
    let last : c.pins-pin-end.result ≡ pins_of c.args.chip.now.kind = c.pins-pin-end.ensures in
    let lt : c.loop-pin.pin < pins_of c.args.chip.now.kind + 1 = omega arith in
    pins-more (all_says c.args.lines.now) c.args.j c.args.chip.now c.loop-pin.pin (pins_of c.args.chip.now.kind + 1) c.loop-pin.wired.items _ _ lt (put c) c.loop-pin.invariant
