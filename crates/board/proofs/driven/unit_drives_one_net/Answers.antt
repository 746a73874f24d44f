use Rattle.board.proofs.DrivenLaws.{one-net}
use Rattle.board.proofs.driven.unit_drives_one_net.Goals as goal

pub returns : goal.returns
returns c = one-net
