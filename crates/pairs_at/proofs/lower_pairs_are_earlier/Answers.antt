use Rattle.pairs_at.proofs.PairLaws.{lower-earlier}
use Rattle.pairs_at.proofs.lower_pairs_are_earlier.Goals as goal

pub returns : goal.returns
returns c = lower-earlier
