use Rattle.breach_names.proofs.Named.{breach-named}
use Rattle.breach_names.proofs.breaches_name_variables.Goals as goal

pub returns : goal.returns
returns c = breach-named
