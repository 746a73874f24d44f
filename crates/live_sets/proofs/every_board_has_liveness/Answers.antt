use Rattle.live_sets.proofs.Rounds.{has-liveness}
use Rattle.live_sets.proofs.every_board_has_liveness.Goals as goal

pub returns : goal.returns
returns c = has-liveness
