use Rattle.std.proofs.Common.{◌≡◌, ◌++◌, map, drop}
use Rattle.mig_base.specs.declared.nets.PinLine.{PinLine}
use Rattle.new_board.specs.declared.types.PinNet.{PinNet}
use Rattle.new_board.specs.NewFiles.{new_number}
use Rattle.new_wirings.proofs.new_wires.push_pins.Given as goal

abbrev pub invariant-loop-wire : goal.invariant-loop-wire
invariant-loop-wire l =
    let line = λ (w : PinNet). let p : PinLine = record { chip = l.number; pin = w.pin; net = new_number l.kept w.net } in p in
    l.pins.items ++ map line (drop l.wire-index l.wire-items) ≡ l.fn.pins.items ++ map line l.wire-items
