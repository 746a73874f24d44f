use Rattle.board.proofs.DrivenLaws.{driven-pin}
use Rattle.board.proofs.driven.unit_drives_net_of_pin.Goals as goal

pub returns : goal.returns
returns c = driven-pin
