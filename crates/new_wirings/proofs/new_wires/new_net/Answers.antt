use Rattle.std.proofs.Common.{arith, length, ap}
use Rattle.new_wirings.proofs.KeptFew.{kept-few}
use Rattle.new_wirings.proofs.new_wires.new_net.Goals as goal

pub new_pins-requires-clause-kept : goal.new_pins-requires-clause-kept
new_pins-requires-clause-kept c =
    let few = kept-few c.args.net.now c.args.chips.now in
    omega (arith, c.requires.nets, ap length c.as_slice-2.ensures.value, ap length c.in_ok-kept.ensures)
