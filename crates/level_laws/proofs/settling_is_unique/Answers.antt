use Rattle.level_laws.proofs.Unique.{settled-unique}
use Rattle.level_laws.proofs.settling_is_unique.Goals as goal

pub returns : goal.returns
returns c = settled-unique
