use Rattle.new_circuits.proofs.PinNets.{pin-kept}
use Rattle.new_circuits.proofs.pins_keep_their_nets.Goals as goal

pub returns : goal.returns
returns c = pin-kept
