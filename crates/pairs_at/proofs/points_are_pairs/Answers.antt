use Rattle.pairs_at.proofs.PairLaws.{points-pairs}
use Rattle.pairs_at.proofs.points_are_pairs.Goals as goal

pub returns : goal.returns
returns c = points-pairs
