use Rattle.std.proofs.Common.{None}
use Rattle.level_laws.specs.Runs.{power_up}
use Rattle.level_laws.proofs.OneRun.{run-unique}
use Rattle.level_laws.proofs.run_is_unique.Goals as goal

pub returns : goal.returns
returns c = λ b rank top inputs shown_a shown_b ranked. run-unique b rank top ranked inputs shown_a shown_b (power_up b) None
