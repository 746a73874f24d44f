use Rattle.new_circuits.proofs.PinNets.{constants-kept}
use Rattle.new_circuits.proofs.constants_keep_their_numbers.Goals as goal

pub returns : goal.returns
returns c = constants-kept
