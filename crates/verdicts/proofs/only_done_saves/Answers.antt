use Rattle.verdicts.proofs.Saves.{only-done-saves}
use Rattle.verdicts.proofs.only_done_saves.Goals as goal

pub returns : goal.returns
returns c = only-done-saves
