use Rattle.pairs_at.proofs.PairLaws.{pairs-points}
use Rattle.pairs_at.proofs.pairs_have_points.Goals as goal

pub returns : goal.returns
returns c = pairs-points
