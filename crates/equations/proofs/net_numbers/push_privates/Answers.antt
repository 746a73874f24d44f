use Rattle.std.proofs.Common.{◌+◌, ◌-◌, ◌&&◌, arith, sym, ◌∙◌}
use Rattle.mig_base.specs.DeviceTables.{is_ordinary}
use Rattle.equations.proofs.PrivatePins.{no_line, rest-next}
use Rattle.equations.proofs.Steps.{taken, left-out}
use Rattle.equations.proofs.net_numbers.push_privates.Goals as goal
use Rattle.equations.proofs.net_numbers.push_privates.Goals.{then-is_private+in_ok-push, else-is_private}

pub loop-pin-preserved : goal.loop-pin-preserved
loop-pin-preserved c =
    let pin = c.loop-pin.pin in
    let lines = c.args.lines.now.pins in
    let test = is_ordinary c.args.kind pin && no_line lines (c.args.chip, pin) in
    let now = c.if-is_private.privates.items in
    let next = rest-next lines c.args.chip c.args.kind pin (c.pins-pin-end.result + 1 - pin) (c.pins-pin-end.result + 1 - (pin + 1)) (omega arith) in
    (elim c.if-is_private.branch [
      | then-is_private+in_ok-push w ↦ taken test (c.args.chip, pin) now _ _ _ next (sym c.is_private.ensures ∙ w.if-is_private.true) (cc w.in_ok-push.ensures.items)
      | else-is_private w ↦ left-out test (c.args.chip, pin) now _ _ _ next (sym c.is_private.ensures ∙ w.if-is_private.false) (cc)
    ])
    ∙ c.loop-pin.invariant
