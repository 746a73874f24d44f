use Rattle.cover.proofs.UniqueLemmas.{cover_unique}
use Rattle.cover.proofs.cover_is_unique.Goals as goal

pub returns : goal.returns
returns c = cover_unique
