use Rattle.level_laws.proofs.Exists.{settling, settled-exists}
use Rattle.level_laws.proofs.settling_exists.Goals as goal

pub returns : goal.returns
returns c = λ b rank top stored inputs ranked. (settling b top stored inputs, settled-exists b rank top stored inputs ranked)
