use Rattle.std.proofs.Common.{None}
use Rattle.level_laws.specs.Runs.{power_up}
use Rattle.level_laws.proofs.OneRun.{run-exists}
use Rattle.level_laws.proofs.run_exists.Goals as goal

pub returns : goal.returns
returns c = λ b rank top inputs ranked. run-exists b rank top ranked inputs (power_up b) None
