use Rattle.board.proofs.NotRefused.{accepted-not_refused}
use Rattle.board.proofs.accepted_is_not_refused.Goals as goal

pub returns : goal.returns
returns c = accepted-not_refused
