use Rattle.avail.proofs.CodeNeeded.{variable-new}
use Rattle.avail.proofs.needed.push_variable.Goals as goal

pub returns : goal.returns
returns c = variable-new _ _ c.args.variable c.in_ok-push.ensures.items
