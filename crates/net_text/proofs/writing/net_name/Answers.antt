use Rattle.std.proofs.Common.{◌∙◌, arith}
use Rattle.net_text.proofs.WrittenSteps.{named-at}
use Rattle.net_text.proofs.writing.net_name.Goals as goal

pub returns-in_default : goal.returns-in_default
returns-in_default c = c.text.ensures ∙ named-at c.args.nets.now c.args.number c.index-nets-number.result (omega arith) c.requires
