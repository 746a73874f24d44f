use Rattle.avail.proofs.NeedLaws.{need-of-chip}
use Rattle.avail.proofs.needs_are_of_chips.Goals as goal

pub returns : goal.returns
returns c = need-of-chip
